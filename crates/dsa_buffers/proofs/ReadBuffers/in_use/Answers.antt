use Rattle.dsa_buffers.proofs.ReadBuffers.in_use.Goals as goal
use Rattle.std.proofs.Common.{slice_index, arith}
use Rattle.std.proofs.lemmas.{Grind.{common_steps}}
use Rattle.dsa_buffers.proofs.Covering.{sum-next}

pub loop-group-preserved : goal.loop-group-preserved
loop-group-preserved c = record {
  value = grind (
    arith,
    common_steps,
    sum-next (slice_index c.args.self.now.used) c.loop-group.group,
    c.loop-group.invariant.value,
  );
  few = grind (arith, common_steps, c.loop-group.invariant.few);
}
