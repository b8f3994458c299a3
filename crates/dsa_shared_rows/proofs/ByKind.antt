-- Answers of each kind of event.
use Rattle.std.proofs.Common.{◌≡◌, ℕ, ◌≤◌, Bool, true, false, List, [], length, lit≤, refl, arith}
use Rattle.std.specs.Prelude.{is_some}
use Rattle.dsa_regs.specs.declared.Caps.{Caps}
use Rattle.dsa_book.specs.{Choice.{Choice}, State.{State}, Machine.{full_reply, is_legal, reply_of}}
use Rattle.dsa_book.specs.declared.event.Event.{Event}
use Rattle.dsa_book.specs.declared.event.Event.TheVariants.{Submit, Dispatch, Fetch, Start, Finish, Issue, Poll}
use Rattle.dsa_book.specs.declared.event.Step.{Step}
use Rattle.dsa_book.specs.declared.answer.Reply.{Reply}
use Rattle.dsa_book.specs.declared.answer.Reply.TheVariants.{Submit, Dispatch, Fetch, Start, Finish, Issue, Poll}
use Rattle.dsa_device.specs.Running.{after_answer}
use Rattle.dsa_workers.{specs.Calls.{IsCallAnswered}, proofs.Answered.{answer_has, answered_after, device_of}}
use Rattle.dsa_shared_rows.specs.Worked.{wide_device, AnsweredNotBy}

-- the reply is of the kind of the event
abbrev pub is_of_kind : Event → Reply → Bool
is_of_kind (Submit client queue portal kind desc) (Submit answer) = true
is_of_kind (Dispatch engine) (Dispatch answer) = true
is_of_kind (Fetch engine desc) (Fetch answer) = true
is_of_kind (Start engine) (Start answer) = true
is_of_kind (Finish engine ticket outcome) (Finish answer) = true
is_of_kind (Issue command) (Issue answer) = true
is_of_kind Poll (Poll answer) = true
is_of_kind _ _ = false

never : (b : Bool) → b ≡ true → b ≡ false → ⊥
never true is not = absurd cc
never false is not = absurd cc

-- a reply of another kind is no answer
pub other_kind : (caps : Caps) (capacity : ℕ) (receipts : List Step) (call : Step)
    → is_of_kind call.event (full_reply call.event) ≡ true
    → ((s : State) (choice : Choice) → is_of_kind call.event (reply_of s call.event choice).0 ≡ true)
    → is_of_kind call.event call.reply ≡ false → IsCallAnswered caps capacity receipts call → ⊥
other_kind caps capacity receipts call full each other is =
    never (is_of_kind call.event call.reply)
    (answer_has (λ reply. is_of_kind call.event reply ≡ true) caps capacity receipts call.event call.reply full each is)
    other

-- what the wide device may answer after this history
pub answered_wide : (capacity : ℕ) (receipts history : List Step) (call : Step) → capacity ≤ 9
    → length history ≤ capacity → is_legal wide_device history ≡ true → length receipts ≤ length history
    → is_some (after_answer (device_of wide_device capacity history) call.event call.reply) ≡ true
    → IsCallAnswered wide_device capacity receipts call
answered_wide capacity receipts history call small within legal seen may =
    answered_after wide_device capacity receipts history call.event call.reply refl (omega (arith, small)) within legal
    seen may

-- what it may answer where its history has no room
pub answered_full : (call : Step)
    → is_some (after_answer (device_of wide_device 0 []) call.event call.reply) ≡ true
    → IsCallAnswered wide_device 0 [] call
answered_full call may = answered_wide 0 [] [] call (lit≤ tt) (lit≤ tt) refl (lit≤ tt) may

-- and no reply of another kind
pub answered_not_by : (call : Step) (other : Reply)
    → is_some (after_answer (device_of wide_device 0 []) call.event call.reply) ≡ true
    → is_of_kind call.event (full_reply call.event) ≡ true
    → ((s : State) (choice : Choice) → is_of_kind call.event (reply_of s call.event choice).0 ≡ true)
    → is_of_kind call.event other ≡ false → AnsweredNotBy call other
answered_not_by call other may full each unlike =
    (answered_full call may, other_kind wide_device 0 [] (record call { reply = other }) full each unlike)
