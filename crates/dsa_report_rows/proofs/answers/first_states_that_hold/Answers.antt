use Rattle.dsa_report_rows.proofs.answers.first_states_that_hold.Goals as goal

pub returns-clause-begun : goal.returns-clause-begun
returns-clause-begun c caps script setup explored terms met is = is.begun

pub returns-clause-sound : goal.returns-clause-sound
returns-clause-sound c caps script setup explored terms is = is.sound

pub returns-clause-complete : goal.returns-clause-complete
returns-clause-complete c caps script setup explored terms met is all can = is.complete all 3 can
