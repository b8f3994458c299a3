use Rattle.dsa_admin.proofs.reasons.commands_follow_reasons.Goals as goal
use Rattle.dsa_admin.proofs.Refusing.{refused_by_reason}

pub returns : goal.returns
returns c = λ s command. refused_by_reason s command
