use Rattle.dsa_buffers.proofs.ReadBuffers.kept_from.Goals as goal
use Rattle.std.proofs.Common.{◌==◌, cond, arith}
use Rattle.dsa_buffers.specs.Buffers.{kept_for}
use Rattle.dsa_buffers.proofs.Covering.{sum-next}

pub loop-other-preserved : goal.loop-other-preserved
loop-other-preserved c = record {
  value = omega (
    arith,
    sum-next (λ other. cond (other == c.args.group) 0 (kept_for c.args.self.now other)) c.loop-other.other,
    c.loop-other.invariant.value,
    c.kept_for_other.ensures,
  );
  few = omega (arith, c.loop-other.invariant.few, c.kept_for_other.ensures, c.ranges);
}
