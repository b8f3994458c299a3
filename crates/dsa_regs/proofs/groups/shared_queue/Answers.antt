use Rattle.dsa_regs.proofs.groups.shared_queue.Goals as goal
use Rattle.std.proofs.{Common.{◌<◌, count_by, sym, arith}, lemmas.Grind.{common_steps}}
use Rattle.dsa_base.specs.Numbers.{has}
use Rattle.dsa_regs.proofs.Places.{first-shared}

pub returns-then-groups_with_queue-gt1 : goal.returns-then-groups_with_queue-gt1
returns-then-groups_with_queue-gt1 c =
    let two : 1 < count_by (λ g. has g.queues c.loop-queue.queue) c.args.groups.now = grind (arith, common_steps) in
    sym (first-shared (λ g. g.queues) c.args.groups.now c.args.queues _ c.loop-queue-test.true c.loop-queue.invariant two)
