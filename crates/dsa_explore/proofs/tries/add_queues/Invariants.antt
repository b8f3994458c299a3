use Rattle.dsa_parties.specs.declared.places.Move.TheVariants as move
use Rattle.std.proofs.Common.{◌≡◌, ◌<◌, ℕ, true, Some}
use Rattle.dsa_base.specs.Lists.{In}
use Rattle.dsa_book.specs.Work.{qualifies}
use Rattle.dsa_explore.specs.Tries.{KeepsTries}
use Rattle.dsa_explore.proofs.tries.add_queues.Given as goal

-- the queues before were added
abbrev pub invariant-loop-queue : goal.invariant-loop-queue
invariant-loop-queue l = KeepsTries l.fn.tries.items l.tries.items
    × ((q : ℕ) → q < l.queue → qualifies l.walked.machine.device.state.work l.engine q ≡ true
    → In (record { by = move.Dispatch l.engine; queue = Some q }) l.tries.items)
