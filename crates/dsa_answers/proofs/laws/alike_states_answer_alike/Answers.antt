use Rattle.dsa_answers.proofs.laws.alike_states_answer_alike.Goals as goal
use Rattle.dsa_answers.proofs.Alike.{alike-next, alike-qualifies}
use Rattle.dsa_laws.proofs.Histories.{replay-well_formed}

pub returns-clause-next : goal.returns-clause-next
returns-clause-next c caps others history further s t s' t' event other first second reaches reached =
    alike-next caps others s t s' t' event other first second (replay-well_formed caps history s reaches)
    (replay-well_formed others further t reached)

pub returns-clause-qualifies : goal.returns-clause-qualifies
returns-clause-qualifies c s t engine queue alike = alike-qualifies s t alike engine queue
