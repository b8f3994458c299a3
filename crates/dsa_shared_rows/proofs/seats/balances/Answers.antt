use Rattle.dsa_shared_rows.proofs.seats.balances.Goals as goal
use Rattle.std.proofs.Common.{refl}

pub returns-clause-even : goal.returns-clause-even
returns-clause-even c = record { all = refl; accepted = refl; fetched = refl; members_alone = refl }
