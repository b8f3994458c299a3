use Rattle.std.proofs.Common.{sym, ◌∙◌, arith}
use Rattle.dsa_parties.proofs.Watched.{to-do-end}
use Rattle.dsa_parties.proofs.watches.is_to_do.Goals as goal

pub returns : goal.returns
returns c = sym (c.loop-number.invariant
    ∙ to-do-end c.args.act c.loop-number.number c.args.parts.now c.args.nexts.now
    (omega (arith, c.loop-number-test.false, c.min-count.ensures)))
