use Rattle.dsa_conform.proofs.offering.offers.Given as goal
use Rattle.std.proofs.Common.{◌≡◌, filter_map}
use Rattle.dsa_base.specs.Numbers.{numbers_below}
use Rattle.dsa_conform.specs.Allowed.{offer}

-- the offers of the queues before
abbrev pub invariant-loop-queue : goal.invariant-loop-queue
invariant-loop-queue g l = l.found.items ≡ filter_map (offer l.device.state.work l.engine) (numbers_below l.queue)
