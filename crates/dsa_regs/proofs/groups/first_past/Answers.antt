use Rattle.dsa_regs.proofs.groups.first_past.Goals as goal
use Rattle.std.proofs.Common.{◌≡◌, ◌&&◌, true, nat_le, sym, arith}
use Rattle.std.proofs.lemmas.Grind.{common_steps}
use Rattle.dsa_base.specs.Numbers.{has}
use Rattle.dsa_regs.proofs.Places.{past-at, past-none}

pub returns-then-has_number : goal.returns-then-has_number
returns-then-has_number c =
    let here : (nat_le c.args.count c.loop-number.number && has c.args.set c.loop-number.number) ≡ true =
    grind (arith, common_steps) in
    sym (past-at c.args.count c.args.set c.loop-number.number c.loop-number-test.true c.loop-number.invariant here)

pub returns : goal.returns
returns c = sym (past-none c.args.count c.args.set c.loop-number.number (omega arith) c.loop-number.invariant)
