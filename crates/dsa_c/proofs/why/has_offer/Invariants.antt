use Rattle.dsa_c.proofs.why.has_offer.Given as goal
use Rattle.std.proofs.Common.{◌≡◌, false}
use Rattle.std.specs.List.{list_any}
use Rattle.dsa_base.specs.Numbers.{numbers_below}
use Rattle.dsa_book.specs.Work.{qualifies}

-- the engine may take from no queue before
abbrev pub invariant-loop-queue : goal.invariant-loop-queue
invariant-loop-queue g l = list_any (qualifies l.device.state.work l.engine) (numbers_below l.queue) ≡ false
