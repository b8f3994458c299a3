use Rattle.dsa_statement_rows.proofs.sampled.steps_of_a_walk.Goals as goal
use Rattle.std.proofs.Common.{refl}

pub returns-clause-on : goal.returns-clause-on
returns-clause-on c space rows w w' made step = step.leads

pub returns-clause-other_key : goal.returns-clause-other_key
returns-clause-other_key c space rows w made step = step.on (record { places = refl; keys = refl })

pub returns-clause-told : goal.returns-clause-told
returns-clause-told c space rows w w' made step = step.told

pub returns-clause-no_step : goal.returns-clause-no_step
returns-clause-no_step c space rows w v steps = steps

pub returns-clause-first : goal.returns-clause-first
returns-clause-first c space rows w v made rest steps = steps.1.0

pub returns-clause-rest : goal.returns-clause-rest
returns-clause-rest c space rows w v made rest steps = steps.1.1

pub returns-clause-back : goal.returns-clause-back
returns-clause-back c space rows w w' move reply leads step = leads.back w' move reply step

pub returns-clause-back_told : goal.returns-clause-back_told
returns-clause-back_told c space rows w w' move reply leads step = leads.told w' move reply step
