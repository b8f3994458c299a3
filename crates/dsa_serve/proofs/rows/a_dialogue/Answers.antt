use Rattle.dsa_serve.proofs.rows.a_dialogue.Goals as goal
use Rattle.std.{proofs.Common.{◌≡◌, true, false, refl}, specs.Fmt.{digits}}
use Rattle.dsa_serve.proofs.RowDialogues.{led}

no : ¬ (true ≡ false)
no same = absurd cc

pub returns-clause-answered : goal.returns-clause-answered
unfolding digits
returns-clause-answered c = record {
  of_actions = (refl, (refl, (refl, tt)));
  led = (led refl refl refl, (led refl refl refl, (led refl refl refl, tt)));
  closest = (λ other. absurd (no other), (λ other. absurd (no other), (λ other. absurd (no other), tt)));
  answered = refl;
}

pub returns-clause-not_answered : goal.returns-clause-not_answered
returns-clause-not_answered c is =
    let answered = is.answered in
    absurd cc

pub returns-clause-without_its_step : goal.returns-clause-without_its_step
returns-clause-without_its_step c is = is.of_actions

pub returns-clause-of_another_event : goal.returns-clause-of_another_event
returns-clause-of_another_event c is =
    let asked = is.of_actions.0 in
    absurd cc

pub returns-clause-of_another_number : goal.returns-clause-of_another_number
returns-clause-of_another_number c is =
    let number = is.led.0.number_is in
    absurd cc
