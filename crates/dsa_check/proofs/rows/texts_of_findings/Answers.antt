use Rattle.dsa_check.proofs.rows.texts_of_findings.Goals as goal
use Rattle.std.proofs.Common.{refl}
use Rattle.dsa_scenario.specs.Worked.{digits_on_literals}

pub returns-clause-place : goal.returns-clause-place
unfolding digits_on_literals
returns-clause-place c reasons = refl

pub returns-clause-line : goal.returns-clause-line
unfolding digits_on_literals
returns-clause-line c reasons = refl

pub returns-clause-spot : goal.returns-clause-spot
unfolding digits_on_literals
returns-clause-spot c reasons = refl

pub returns-clause-told : goal.returns-clause-told
unfolding digits_on_literals
returns-clause-told c reasons = refl

pub returns-clause-bare : goal.returns-clause-bare
unfolding digits_on_literals
returns-clause-bare c reasons = refl

pub returns-clause-flaw : goal.returns-clause-flaw
unfolding digits_on_literals
returns-clause-flaw c reasons = refl
