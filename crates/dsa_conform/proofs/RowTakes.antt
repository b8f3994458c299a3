-- What engine 0 may take where two queues have an entry, and a device that may answer nothing.
use Rattle.std.proofs.Common.{◌≡◌, ◌⊎◌, inl, inr, ◌<◌, zero, suc, true, Ok, Some, refl, subst, arith}
use Rattle.std.proofs.lemmas.Bool.{and_parts, ltb-true}
use Rattle.dsa_store.specs.Content.{is_free}
use Rattle.dsa_book.specs.declared.{answer.Reply.{Reply}, event.Event.{Event, TheVariants.{Dispatch}}}
use Rattle.dsa_book.specs.Choice.{Choice, choice_of, nothing, in_cell, from_queue}
use Rattle.dsa_book.specs.{Machine.{may_choose, next, reply_of}, State.{State}}
use Rattle.dsa_book.proofs.Nexts.{next-each}
use Rattle.dsa_device.{specs.Running.{Running, after_answer}, proofs.Steps.{answered_by_cases}}
use Rattle.dsa_scenario.specs.declared.run.Record.{Record, TheVariants.{Stepped, Refused}}
use Rattle.dsa_scenario.specs.{Run.{answered_by}, Worked.{stepped, submission_of_a_run}}
use Rattle.dsa_conform.specs.{Allowed.{IsAllowed}, Worked.{from_first, from_second, after_all, no_cells}}
use Rattle.dsa_conform.proofs.Choices.{below_queues}

-- an answer takes the entry of the first queue or of the second
abbrev IsEither : Event → Reply → Type 0
IsEither e reply = (from_first ≡ stepped e reply) ⊎ (from_second ≡ stepped e reply)

-- what the engine takes where both queues may be taken from
taken_then : (reply : Reply) (s : State) → next after_all.state (Dispatch 0) reply ≡ Some s
    → IsEither (Dispatch 0) reply
taken_then reply s h = next-each (λ r t. IsEither (Dispatch 0) r) after_all.state s (Dispatch 0) reply at h
  where
    at : (choice : Choice) → may_choose after_all.state (Dispatch 0) choice ≡ true
        → choice_of (reply_of after_all.state (Dispatch 0) choice).0 ≡ choice
        → IsEither (Dispatch 0) (reply_of after_all.state (Dispatch 0) choice).0
    at (from_queue zero) may same = inl refl
    at (from_queue (suc zero)) may same = absurd cc
    at (from_queue (suc (suc zero))) may same = inr refl
    at (from_queue (suc (suc (suc q)))) may same =
        let below : suc (suc (suc q)) < 3 = below_queues after_all.state.work 0 (suc (suc (suc q))) may in
        absurd (omega (arith, below))
    at nothing may same = absurd cc
    at (in_cell cell) may same = absurd cc

either_step : (e : Event) (reply : Reply) (after : Running) → answered_by (stepped e reply) ≡ Ok (Dispatch 0)
    → after_answer after_all e reply ≡ Some after → IsEither e reply
either_step (Dispatch zero) reply after asked leads =
    answered_by_cases (λ d. IsEither (Dispatch 0) reply) after_all after (Dispatch 0) reply leads
    (λ full first. absurd cc)
    (λ s room follows. taken_then reply s follows)
either_step _ reply after asked leads = absurd cc

-- so of what may be answered
pub either_entry : (P : Record → Type 0) → P from_first → P from_second → (entry : Record)
    → IsAllowed after_all (Ok (Dispatch 0)) entry → P entry
either_entry P first second (Refused fault) is = absurd (let other = is.answers in cc)
either_entry P first second (Stepped step) is =
    elim (either_step step.event step.reply is.after is.answers is.leads) [
      | inl same ↦ subst P same first
      | inr same ↦ subst P same second
    ]

-- both may come
pub first_allowed : IsAllowed after_all (Ok (Dispatch 0)) from_first
first_allowed = record { answers = refl; after = _; leads = refl }

pub second_allowed : IsAllowed after_all (Ok (Dispatch 0)) from_second
second_allowed = record { answers = refl; after = _; leads = refl }

-- ---- a submission that may come into no cell

no_reply : (reply : Reply) (s : State) → next no_cells.state submission_of_a_run reply ≡ Some s → ⊥
no_reply reply s h = next-each (λ r t. ⊥) no_cells.state s submission_of_a_run reply at h
  where
    at : (choice : Choice) → may_choose no_cells.state submission_of_a_run choice ≡ true
        → choice_of (reply_of no_cells.state submission_of_a_run choice).0 ≡ choice → ⊥
    at nothing may same = absurd cc
    at (in_cell cell) may same =
        let free : is_free 0 no_cells.state.work.content cell ≡ true = may in
        let below : cell.0 < 0 = ltb-true cell.0 0 (and_parts _ _ free).0 in
        absurd (omega (arith, below))
    at (from_queue queue) may same = absurd cc

no_step : (e : Event) (reply : Reply) (after : Running) → e ≡ submission_of_a_run
    → after_answer no_cells e reply ≡ Some after → ⊥
no_step e reply after same leads =
    answered_by_cases (λ d. ⊥) no_cells after submission_of_a_run reply
    (subst (λ asked. after_answer no_cells asked reply ≡ Some after) same leads)
    (λ full first. absurd cc)
    (λ s room follows. no_reply reply s follows)

pub none_allowed : (entry : Record) → IsAllowed no_cells (Ok submission_of_a_run) entry → ⊥
none_allowed (Refused fault) is = absurd (let other = is.answers in cc)
none_allowed (Stepped step) is =
    let asked = is.answers in
    let same : step.event ≡ submission_of_a_run = cc in
    no_step step.event step.reply is.after same is.leads
