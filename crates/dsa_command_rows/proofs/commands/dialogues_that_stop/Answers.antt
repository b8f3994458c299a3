use Rattle.dsa_command_rows.proofs.commands.dialogues_that_stop.Goals as goal
use Rattle.std.proofs.Common.{inl, inr, refl}

pub returns-clause-written : goal.returns-clause-written
returns-clause-written c had left is = (is, λ early. absurd (early (inr (inl refl))))

pub returns-clause-strictly : goal.returns-clause-strictly
returns-clause-strictly c fault had left old new stopped = stopped.1.left_out refl
