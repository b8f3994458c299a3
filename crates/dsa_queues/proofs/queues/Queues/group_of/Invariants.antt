use Rattle.dsa_queues.proofs.queues.Queues.group_of.Given as goal
use Rattle.std.{proofs.Common.{◌≡◌, false, take}, specs.List.{list_any}}
use Rattle.dsa_base.specs.Numbers.{has}

abbrev pub invariant-loop-group : goal.invariant-loop-group
invariant-loop-group l = list_any (λ g. has g.engines l.engine) (take l.group l.self.setup.groups) ≡ false
