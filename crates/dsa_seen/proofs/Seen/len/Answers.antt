use Rattle.std.proofs.Common.{ap, sym, ◌∙◌, length, arith}
use Rattle.dsa_seen.specs.Table.{Table}
use Rattle.dsa_seen.proofs.Pushed.{length-strings_of}
use Rattle.dsa_seen.proofs.Seen.len.Goals as goal

pub overflow_cast-result : goal.overflow_cast-result
overflow_cast-result c = let chains = c.self.inside.chains in
    omega (arith, c.self.invariant.1.within, c.self.invariant.1.few, chains.lengths.ok.0)

pub returns-clause-count : goal.returns-clause-count
returns-clause-count c = let chains = c.self.inside.chains in
    c.len.ensures ∙ chains.lengths.ok.0 ∙ sym (length-strings_of chains)
    ∙ ap (λ (t : Table). length t.strings) c.self.view_is
