use Rattle.std.proofs.Common.{◌+◌, length, ap, sym, ◌∙◌, arith}
use Rattle.dsa_seen.specs.Table.{Table}
use Rattle.dsa_seen.specs.Chains.{strings_of}
use Rattle.dsa_seen.proofs.Pushed.{length-strings_of, room-fewer}
use Rattle.dsa_seen.proofs.Seen.insert.Goals as goal

pub push-requires-clause-room : goal.push-requires-clause-room
push-requires-clause-room c = let chains = c.self.inside.chains in
    room-fewer chains c.self.inside.most (length (strings_of chains) + 1) c.self.invariant.1
    (omega (
      arith,
      c.self.invariant.1.within,
      length-strings_of chains,
      c.len-number.ensures.count ∙ ap (λ (t : Table). length t.strings) (sym c.self.view_is),
      c.if-number-self.false,
    ))
    (omega (arith, length-strings_of chains))
