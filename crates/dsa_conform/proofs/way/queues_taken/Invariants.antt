use Rattle.std.proofs.Common.{◌≡◌, take}
use Rattle.dsa_conform.specs.Ways.{queues_taken}
use Rattle.dsa_conform.proofs.way.queues_taken.Given as goal

-- the queues that the steps before took from
abbrev pub invariant-loop-step : goal.invariant-loop-step
invariant-loop-step l = l.queues.items ≡ queues_taken (take l.step-index l.steps)
