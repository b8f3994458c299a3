use Rattle.dsa_check.proofs.judge.judge_item.Goals as goal
use Rattle.std.proofs.Common.{arith}
use Rattle.std.proofs.lemmas.Grind.{common_steps}

pub returns-in_ok-push-clause-faults : goal.returns-in_ok-push-clause-faults
returns-in_ok-push-clause-faults = grind (arith, common_steps)
