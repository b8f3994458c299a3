use Rattle.dsa_check.proofs.report.add_remarks.Goals as goal
use Rattle.std.proofs.Common.{arith}
use Rattle.std.proofs.lemmas.Grind.{common_steps}

pub loop-remark-preserved : goal.loop-remark-preserved
loop-remark-preserved = grind (arith, common_steps)

pub returns : goal.returns
returns = grind (arith, common_steps)
