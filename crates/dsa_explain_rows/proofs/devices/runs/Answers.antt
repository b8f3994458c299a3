use Rattle.dsa_explain_rows.proofs.devices.runs.Goals as goal
use Rattle.std.proofs.Common.{◌≡◌, [], ◌∷◌, ◌++◌, ap, arith, refl, subst, sym, true}
use Rattle.std.specs.Prelude.{List, Option, Some, length, map, option_map, unwrap_or}
use Rattle.dsa_book.specs.Machine.{is_run_after, replay, stored_steps}
use Rattle.dsa_book.specs.State.{State}
use Rattle.dsa_book.specs.declared.{answer.PollAnswer.TheVariants.{Full, Nothing}, event.Step.{Step}}
use Rattle.dsa_device.specs.{Running.{Running, running_at_first}, Runs.{IsRunOf}}
use Rattle.dsa_worked.specs.Setup.{polled}
use Rattle.dsa_worked.specs.Uneven.{many_queues}
use Rattle.dsa_explain_rows.specs.Alike.{device_after, first_write, second_write}
use Rattle.dsa_explain_rows.proofs.Stepless.{asks_nothing}

-- steps that may come are a run to where they lead
run_by : (before : Running) (old steps : List Step) (last : State)
    → is_run_after before.caps before.capacity before.history steps ≡ true
    → replay before.caps (before.history ++ stored_steps steps) ≡ Some last
    → IsRunOf before (map (λ step. step.event) steps) old (old ++ steps)
    (record before { history = before.history ++ stored_steps steps; state = last })
run_by before old steps last allowed replayed =
    record { steps = steps; added = refl; events_are = refl; allowed = allowed; same_caps = refl; same_capacity = refl; history = refl; replayed = replayed }

pub returns-clause-no_events : goal.returns-clause-no_events
returns-clause-no_events c = run_by (running_at_first many_queues 5) (first_write ∷ []) [] _ refl refl

pub returns-clause-two_events : goal.returns-clause-two_events
returns-clause-two_events c =
    run_by (device_after 5 (first_write ∷ [])) (first_write ∷ polled Nothing ∷ []) (polled Nothing ∷ second_write ∷ []) _
    refl refl

pub returns-clause-full : goal.returns-clause-full
returns-clause-full c = run_by (device_after 1 (first_write ∷ [])) [] (polled Full ∷ []) _ refl refl

pub returns-clause-no_step : goal.returns-clause-no_step
returns-clause-no_step c is = asks_nothing is.steps is.added is.events_are

pub returns-clause-not_full : goal.returns-clause-not_full
returns-clause-not_full c is =
    let same : polled Full ∷ [] ≡ is.steps = is.added in
    grind (arith, subst (λ steps. is_run_after many_queues 5 [] steps ≡ true) (sym same) is.allowed)

pub returns-clause-other_caps : goal.returns-clause-other_caps
returns-clause-other_caps c is = omega (arith, ap (λ caps. caps.queues) is.same_caps)

pub returns-clause-other_history : goal.returns-clause-other_history
returns-clause-other_history c is =
    let none : [] ≡ is.steps = is.added in
    let same = subst (λ steps. first_write ∷ [] ≡ stored_steps steps) (sym none) is.history in
    grind (arith, ap length same)

pub returns-clause-other_state : goal.returns-clause-other_state
returns-clause-other_state c is = omega (
  arith,
  ap (λ (o : Option State). unwrap_or (option_map (λ (s : State). s.work.setup.caps.queues) o) 0) is.replayed,
)
