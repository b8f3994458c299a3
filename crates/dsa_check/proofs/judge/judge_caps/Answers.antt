use Rattle.dsa_check.proofs.judge.judge_caps.Goals as goal
use Rattle.std.proofs.Common.{arith}
use Rattle.std.proofs.lemmas.Grind.{common_steps}

pub returns-in_ok-push-in-Some-parse_caps-clause-faults : goal.returns-in_ok-push-in-Some-parse_caps-clause-faults
returns-in_ok-push-in-Some-parse_caps-clause-faults = grind (arith, common_steps)
