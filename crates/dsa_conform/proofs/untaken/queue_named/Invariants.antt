use Rattle.std.proofs.Common.{◌≡◌, None, find}
use Rattle.dsa_base.specs.Numbers.{numbers_below}
use Rattle.dsa_conform.specs.Against.{ends_with_queue}
use Rattle.dsa_conform.proofs.untaken.queue_named.Given as goal

-- the text ends with none of the queues before
abbrev pub invariant-loop-queue : goal.invariant-loop-queue
invariant-loop-queue l = find (ends_with_queue l.text) (numbers_below l.queue) ≡ None
