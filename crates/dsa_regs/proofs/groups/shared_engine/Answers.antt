use Rattle.dsa_regs.proofs.groups.shared_engine.Goals as goal
use Rattle.std.proofs.{Common.{◌<◌, count_by, sym, arith}, lemmas.Grind.{common_steps}}
use Rattle.dsa_base.specs.Numbers.{has}
use Rattle.dsa_regs.proofs.Places.{first-shared}

pub returns-then-groups_with_engine-gt1 : goal.returns-then-groups_with_engine-gt1
returns-then-groups_with_engine-gt1 c =
    let two : 1 < count_by (λ g. has g.engines c.loop-engine.engine) c.args.groups.now = grind (arith, common_steps) in
    sym (first-shared (λ g. g.engines) c.args.groups.now c.args.engines _ c.loop-engine-test.true c.loop-engine.invariant two)
