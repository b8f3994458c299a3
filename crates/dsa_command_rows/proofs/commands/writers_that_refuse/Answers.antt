use Rattle.dsa_command_rows.proofs.commands.writers_that_refuse.Goals as goal
use Rattle.std.proofs.Common.{refl}

pub returns : goal.returns
returns c = record { cut = (tt, (λ other. absurd (other refl)), (λ same. tt)) }
