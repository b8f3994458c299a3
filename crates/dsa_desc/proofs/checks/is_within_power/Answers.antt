use Rattle.dsa_desc.proofs.checks.is_within_power.Goals as goal
use Rattle.std.proofs.{Common.{◌≤◌, ◌^◌, pow_mono, arith}, lemmas.Grind.{common_steps}}

-- every number of 32 bits is within a power past the 32nd
pub returns-then-shift-ge32 : goal.returns-then-shift-ge32
returns-then-shift-ge32 c =
    let past : 2 ^ 32 ≤ 2 ^ c.args.shift = pow_mono c.if-shift-ge32.true in
    grind (arith, common_steps)
