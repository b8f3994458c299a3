use Rattle.dsa_explain_rows.proofs.effects.of_refused_commands.Goals as goal
use Rattle.std.proofs.Common.{[], arith, refl, ⊎_elim}
use Rattle.dsa_explain_rows.proofs.Begun.{disable_begun, drain_begun}

pub returns-clause-granted : goal.returns-clause-granted
returns-clause-granted c = record { idle = refl; queues = refl; phases = refl; check = refl }

pub returns-clause-begun : goal.returns-clause-begun
returns-clause-begun c = drain_begun []

pub returns-clause-disables : goal.returns-clause-disables
returns-clause-disables c = disable_begun []

pub returns-clause-aborts : goal.returns-clause-aborts
returns-clause-aborts c is = ⊎_elim (λ deed. grind (arith, deed)) (λ deed. grind (arith, deed)) is.deed
