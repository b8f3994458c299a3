use Rattle.std.proofs.Common.{take}
use Rattle.dsa_conform.specs.{Sights.{steps_counted}, Ways.{AreAdded}}
use Rattle.dsa_conform.proofs.ways.add_forks.Given as goal

-- those of the queues before were added
abbrev pub invariant-loop-queue : goal.invariant-loop-queue
invariant-loop-queue l =
    AreAdded l.sights.head.now.caps l.sights.head.now.capacity (steps_counted l.sights) l.number l.choices
    (take l.queue-index l.queues) l.initial.ways.items l.ways.items
