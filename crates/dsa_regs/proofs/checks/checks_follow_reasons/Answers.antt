use Rattle.dsa_regs.proofs.checks.checks_follow_reasons.Goals as goal
use Rattle.std.proofs.Common.{sym}
use Rattle.dsa_regs.{specs.Config.{check_fault, groups_rules, queue_rules, total_size}, proofs.Places.{row-map}}

pub returns-clause-device : goal.returns-clause-device
returns-clause-device c = λ caps queues groups. sym (row-map check_fault (groups_rules caps (total_size queues) groups))

pub returns-clause-queue : goal.returns-clause-queue
returns-clause-queue c = λ caps groups queue config. sym (row-map check_fault (queue_rules caps groups queue config))
