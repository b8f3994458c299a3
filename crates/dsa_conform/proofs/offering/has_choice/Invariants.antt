use Rattle.std.proofs.Common.{◌≡◌, ◌<◌, ℕ, Some, true}
use Rattle.dsa_book.specs.Work.{qualifies}
use Rattle.dsa_conform.proofs.offering.has_choice.Given as goal

-- a queue before that the engine may take from is the one that is kept
abbrev pub invariant-loop-queue : goal.invariant-loop-queue
invariant-loop-queue g l =
    (q : ℕ) → q < l.queue → qualifies l.device.state.work l.engine q ≡ true → l.first ≡ Some q
