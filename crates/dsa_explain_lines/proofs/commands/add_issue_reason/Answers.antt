use Rattle.dsa_explain_lines.proofs.commands.add_issue_reason.Goals as goal
use Rattle.std.proofs.Common.{arith}
use Rattle.std.proofs.lemmas.Grind.{common_steps}

pub returns-in_ok-add_whose-in-WrongPhase : goal.returns-in_ok-add_whose-in-WrongPhase
returns-in_ok-add_whose-in-WrongPhase = grind (arith, common_steps)
