use Rattle.dsa_shared_rows.proofs.workers.calls_that_no_device_answers.Goals as goal
use Rattle.dsa_book.specs.declared.answer.DispatchAnswer.TheVariants as dispatch
use Rattle.dsa_book.specs.declared.answer.IssueAnswer.TheVariants as issue
use Rattle.dsa_book.specs.declared.answer.PollAnswer.TheVariants as poll
use Rattle.dsa_book.specs.declared.answer.Reply.TheVariants as reply
use Rattle.dsa_book.specs.declared.event.Event.TheVariants as event
use Rattle.std.proofs.Common.{◌≡◌, ◌∙◌, ◌<◌, List, [], ◌∷◌, Option, Some, None, ap, arith, length, refl}
use Rattle.std.proofs.lemmas.{Bool.{eqb-false}, Option.{same_Some}}
use Rattle.dsa_regs.specs.declared.Command.TheVariants.{DrainAll}
use Rattle.dsa_book.{specs.Machine.{full_reply}, proofs.EqualReplies.{equal-replies}}
use Rattle.dsa_book.specs.declared.{answer.Reply.{Reply}, event.Step.{Step}}
use Rattle.dsa_device.proofs.Steps.{answered_by_cases}
use Rattle.dsa_workers.specs.Calls.{calls_of, found_full, steps_done, InOrder, IsCallAnswered, NextCommand, NextTurn}
use Rattle.dsa_shared_rows.specs.Worked.{member_script, question, seat_of, wide_device}

-- where the history has no room, each answer is Full
full_alone : (receipts : List Step) (call : Step) → IsCallAnswered wide_device 0 receipts call
    → call.reply ≡ full_reply call.event
full_alone receipts call is =
    answered_by_cases (λ d. call.reply ≡ full_reply call.event) is.0 is.1 call.event call.reply is.4
    (λ room full. equal-replies call.reply (full_reply call.event) full)
    (λ s room step. absurd (eqb-false _ _ room (omega (arith, is.2.replay.within, is.2.same_capacity))))

engine_found : (turns : List (Option Step)) → InOrder (NextTurn wide_device 0 (seat_of 3 []) member_script) turns
    → length turns ≡ 1 → 0 < found_full (calls_of turns)
engine_found [] order one = absurd (omega (arith, one))
engine_found (None ∷ []) order one = absurd (grind (arith, (order 0 None (omega arith)).1))
engine_found (Some call ∷ []) order one =
    let next = order 0 None (omega arith) in
    let same : call.event ≡ event.Dispatch 3 = same_Some _ _ next.1 in
    let full : call.reply ≡ reply.Dispatch dispatch.Full = full_alone [] call next.0 ∙ ap full_reply same in
    let found : found_full (call ∷ []) ≡ 1 =
    ap (λ (r : Reply). found_full (record { event = call.event; reply = r } ∷ [])) full in
    omega (arith, found)
engine_found (turn ∷ other ∷ turns) order one = absurd (omega (arith, one))

admin_stays : (calls : List Step) → InOrder (NextCommand wide_device 0 [] (DrainAll ∷ [])) calls → length calls ≡ 1
    → steps_done calls ≡ 0
admin_stays [] order one = refl
admin_stays (call ∷ []) order one =
    let next = order 0 call (omega arith) in
    let same : call.event ≡ event.Issue DrainAll = next.1 DrainAll in
    let full : call.reply ≡ reply.Issue issue.Full = full_alone [] call next.0 ∙ ap full_reply same in
    ap (λ (r : Reply). steps_done (record { event = call.event; reply = r } ∷ [])) full
admin_stays (call ∷ other ∷ calls) order one = absurd (omega (arith, one))

pub returns-clause-client : goal.returns-clause-client
returns-clause-client c is =
    let answer = (is.runs.in_order 0 (question poll.Full) (omega (arith, is.runs.turns))).0 in
    omega (arith, answer.2.replay.bounded, answer.2.same_capacity)

pub returns-clause-engine : goal.returns-clause-engine
returns-clause-engine c is = grind (arith, is.full.1 (engine_found is.turns is.in_order is.count))

pub returns-clause-admin : goal.returns-clause-admin
returns-clause-admin c is = omega (arith, admin_stays is.calls is.in_order is.turns, is.done.0 refl)
