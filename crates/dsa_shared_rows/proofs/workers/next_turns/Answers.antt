use Rattle.dsa_shared_rows.proofs.workers.next_turns.Goals as goal
use Rattle.dsa_book.specs.declared.answer.DispatchAnswer.TheVariants as dispatch
use Rattle.dsa_book.specs.declared.answer.PollAnswer.TheVariants as poll
use Rattle.std.proofs.Common.{[], arith, lit≤, refl}
use Rattle.dsa_book.specs.declared.answer.Reply.TheVariants.{Poll}
use Rattle.dsa_shared_rows.proofs.ByKind.{answered_wide, other_kind}
use Rattle.dsa_shared_rows.specs.Worked.{asked_first, wide_device, wide_set_up}

pub returns-clause-first : goal.returns-clause-first
returns-clause-first c =
    (answered_wide 9 [] wide_set_up (asked_first 3 dispatch.Idle) (lit≤ tt) (lit≤ tt) refl (lit≤ tt) refl, refl)

pub returns-clause-no_call : goal.returns-clause-no_call
returns-clause-no_call c = (tt, refl)

pub returns-clause-not_answered : goal.returns-clause-not_answered
returns-clause-not_answered c is =
    other_kind wide_device 9 [] (record (asked_first 3 dispatch.Idle) { reply = Poll poll.Full }) refl
    (λ s choice. refl) refl is.0

pub returns-clause-older_than_calls : goal.returns-clause-older_than_calls
returns-clause-older_than_calls c is = omega (arith, is.0.2.replay.within, is.0.2.same_capacity, is.0.3)

pub returns-clause-older_than_the_seat : goal.returns-clause-older_than_the_seat
returns-clause-older_than_the_seat c is = omega (arith, is.0.2.replay.within, is.0.2.same_capacity, is.0.3)
