use Rattle.std.proofs.Common.{◌≡◌, ◌*◌, ◌≤◌, slice_index}
use Rattle.std.specs.Prelude.{sum_by}
use Rattle.dsa_base.specs.Numbers.{numbers_below}
use Rattle.dsa_buffers.proofs.ReadBuffers.in_use.Given as goal

abbrev pub invariant-loop-group : goal.invariant-loop-group
invariant-loop-group l = record {
  value : l.sum ≡ sum_by (slice_index l.self.used) (numbers_below l.group);
  few : l.sum ≤ l.group * 0xffff;
}
