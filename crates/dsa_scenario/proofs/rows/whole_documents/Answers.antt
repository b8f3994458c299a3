use Rattle.dsa_scenario.proofs.rows.whole_documents.Goals as goal
use Rattle.std.proofs.Common.{ap, arith, length, lit≤, refl}

pub returns-clause-whole : goal.returns-clause-whole
returns-clause-whole c = (refl, refl, lit≤ tt)

pub returns-clause-unknown : goal.returns-clause-unknown
returns-clause-unknown c = (tt, tt, lit≤ tt)

pub returns-clause-others : goal.returns-clause-others
returns-clause-others c is = omega (arith, ap length is.0)

pub returns-clause-more_left : goal.returns-clause-more_left
returns-clause-more_left c is = omega (arith, ap length is.1)
