use Rattle.dsa_admin.proofs.ends.count_named.Given as goal
use Rattle.std.proofs.Common.{◌≡◌, ◌≤◌, ◌*◌, ◌^◌}
use Rattle.dsa_store.specs.Content.{Content, count_where}
use Rattle.dsa_queues.specs.Queues.{IsCounted}
use Rattle.dsa_admin.proofs.Naming.{is_named_below}

abbrev pub invariant-loop-queue : goal.invariant-loop-queue
invariant-loop-queue l = record {
  few : l.count ≤ l.queue * 2 ^ 32;
  counts : (content : Content) → IsCounted l.queues content
      → l.count ≡ count_where (is_named_below l.scope l.queue) content;
}
