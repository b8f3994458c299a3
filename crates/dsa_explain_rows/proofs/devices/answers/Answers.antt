use Rattle.dsa_explain_rows.proofs.devices.answers.Goals as goal
use Rattle.std.proofs.Common.{◌≡◌, [], ◌∷◌, None, Some, ap, arith, refl, subst, sym}
use Rattle.std.specs.Prelude.{List, Option, option_map, unwrap_or}
use Rattle.dsa_book.specs.declared.{answer.PollAnswer.TheVariants.{Full, Nothing}, event.Step.{Step}}
use Rattle.dsa_device.specs.Running.{Running, running_at_first, after_answers}
use Rattle.dsa_worked.specs.{Setup.{polled}, Uneven.{many_queues}}
use Rattle.dsa_explain_rows.specs.Alike.{second_write}
use Rattle.dsa_explain_rows.proofs.Stepless.{asks_nothing}

pub returns-clause-no_events : goal.returns-clause-no_events
returns-clause-no_events c = record { steps = []; added = refl; events_are = refl; answered = refl }

pub returns-clause-two_events : goal.returns-clause-two_events
returns-clause-two_events c = record {
  steps = polled Nothing ∷ second_write ∷ [];
  added = refl;
  events_are = refl;
  answered = refl;
}

pub returns-clause-no_step : goal.returns-clause-no_step
returns-clause-no_step c is = asks_nothing is.steps is.added is.events_are

pub returns-clause-not_full : goal.returns-clause-not_full
returns-clause-not_full c is =
    let same : polled Full ∷ [] ≡ is.steps = is.added in
    let no : None ≡ Some (running_at_first many_queues 5) =
    subst (λ (steps : List Step). after_answers (running_at_first many_queues 5) steps
    ≡ Some (running_at_first many_queues 5)) (sym same) is.answered in
    absurd cc

pub returns-clause-other_device : goal.returns-clause-other_device
returns-clause-other_device c is =
    let none : [] ≡ is.steps = is.added in
    let same : Some (running_at_first many_queues 5) ≡ Some (running_at_first many_queues 6) =
    subst (λ (steps : List Step). after_answers (running_at_first many_queues 5) steps
    ≡ Some (running_at_first many_queues 6)) (sym none) is.answered in
    omega (arith, ap (λ (o : Option Running). unwrap_or (option_map (λ (d : Running). d.capacity) o) 0) same)
