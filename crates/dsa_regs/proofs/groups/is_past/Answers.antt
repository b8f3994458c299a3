use Rattle.dsa_regs.proofs.groups.is_past.Goals as goal
use Rattle.std.proofs.{Common.{◌≤◌, ◌^◌, pow_mono, arith}, lemmas.{Grind.{common_steps}, Nat.{pow_pos}}}
use Rattle.dsa_base.proofs.NumberLemmas.{div-none}

pub returns-then-count-lt64 : goal.returns-then-count-lt64
returns-then-count-lt64 c = div-none c.args.set (2 ^ c.args.count) (pow_pos c.args.count)

-- a number of 64 bits is below each further power
pub returns-else-count-lt64 : goal.returns-else-count-lt64
returns-else-count-lt64 c =
    let past : 2 ^ 64 ≤ 2 ^ c.args.count = pow_mono (c.if-count-lt64.false) in
    grind (arith, common_steps)
