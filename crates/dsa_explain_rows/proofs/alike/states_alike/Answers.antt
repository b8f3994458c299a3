use Rattle.dsa_explain_rows.proofs.alike.states_alike.Goals as goal
use Rattle.std.proofs.Common.{refl}

pub returns-clause-cells : goal.returns-clause-cells
returns-clause-cells c = record { setup = refl; entries = refl; notes = refl; active = refl }
