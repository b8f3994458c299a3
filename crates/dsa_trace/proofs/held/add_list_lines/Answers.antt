use Rattle.dsa_trace.proofs.held.add_list_lines.Goals as goal
use Rattle.std.proofs.Common.{arith}
use Rattle.std.proofs.lemmas.Grind.{common_steps}

pub loop-pair-preserved : goal.loop-pair-preserved
loop-pair-preserved = grind (arith, common_steps)
