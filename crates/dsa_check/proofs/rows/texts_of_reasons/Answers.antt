use Rattle.dsa_check.proofs.rows.texts_of_reasons.Goals as goal
use Rattle.std.proofs.Common.{refl}
use Rattle.dsa_scenario.specs.Worked.{digits_on_literals}

pub returns-clause-misspelled : goal.returns-clause-misspelled
unfolding digits_on_literals
returns-clause-misspelled c text = refl

pub returns-clause-stray : goal.returns-clause-stray
unfolding digits_on_literals
returns-clause-stray c text = refl

pub returns-clause-near : goal.returns-clause-near
unfolding digits_on_literals
returns-clause-near c text = refl

pub returns-clause-unknown : goal.returns-clause-unknown
unfolding digits_on_literals
returns-clause-unknown c text = refl
