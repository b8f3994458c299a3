use Rattle.std.proofs.Common.{◌≡◌, ◌*◌, ◌≤◌, ◌==◌, cond}
use Rattle.std.specs.Prelude.{sum_by}
use Rattle.dsa_base.specs.Numbers.{numbers_below}
use Rattle.dsa_buffers.specs.Buffers.{kept_for}
use Rattle.dsa_buffers.proofs.ReadBuffers.kept_from.Given as goal

abbrev pub invariant-loop-other : goal.invariant-loop-other
invariant-loop-other l = record {
  value : l.sum ≡ sum_by (λ other. cond (other == l.group) 0 (kept_for l.self other)) (numbers_below l.other);
  few : l.sum ≤ l.other * 0xffff;
}
