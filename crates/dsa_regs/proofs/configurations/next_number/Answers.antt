use Rattle.dsa_regs.proofs.configurations.next_number.Goals as goal
use Rattle.std.proofs.{Common.{◌^◌, ◌<◌, arith}, lemmas.{Grind.{common_steps}, Nat.{shr_le}}}
use Rattle.dsa_base.proofs.Bits.{none-past, none-left, next-left, within-set}

pub returns-then-from-ge64-clause-number : goal.returns-then-from-ge64-clause-number
returns-then-from-ge64-clause-number c =
    none-past c.args.bits c.args.from (grind (arith, common_steps)) c.if-from-ge64.true

pub returns-then-rest-eq0-clause-number : goal.returns-then-rest-eq0-clause-number
returns-then-rest-eq0-clause-number c = none-left c.args.bits c.args.from c.if-rest-eq0.true

pub returns-clause-number : goal.returns-clause-number
returns-clause-number c =
    let less = shr_le c.args.bits c.args.from in
    next-left c.args.bits c.args.from (grind (arith, common_steps, less)) (omega (arith, c.if-rest-eq0.false))

pub returns-clause-within : goal.returns-clause-within
returns-clause-within c =
    let fits : c.args.bits < 2 ^ 64 = grind (arith, common_steps) in
    within-set c.args.bits _ fits (returns-clause-number c).in_the_set
