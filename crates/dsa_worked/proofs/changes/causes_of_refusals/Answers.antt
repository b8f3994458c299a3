use Rattle.dsa_worked.proofs.changes.causes_of_refusals.Goals as goal
use Rattle.std.proofs.Common.{lit≤, refl}

pub returns-clause-at_the_limit : goal.returns-clause-at_the_limit
returns-clause-at_the_limit c = (refl, refl, lit≤ tt)

pub returns-clause-other_kind : goal.returns-clause-other_kind
returns-clause-other_kind c = (refl, refl)

pub returns-clause-after_many : goal.returns-clause-after_many
returns-clause-after_many c = (refl, refl, lit≤ tt)
