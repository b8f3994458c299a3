use Rattle.dsa_shared_rows.proofs.workers.next_submissions.Goals as goal
use Rattle.dsa_book.specs.declared.answer.PollAnswer.TheVariants as poll
use Rattle.std.proofs.Common.{[], ◌∷◌, arith, lit≤, refl}
use Rattle.dsa_book.specs.declared.answer.{Reply.TheVariants.{Poll}, SubmitAnswer.TheVariants.{Full}}
use Rattle.dsa_shared_rows.proofs.ByKind.{answered_wide, other_kind}
use Rattle.dsa_shared_rows.specs.Worked.{again_of_client, script_call, script_step, taken_of_client, wide_device}
use Rattle.dsa_shared_rows.specs.Worked.{wide_set_up}

pub returns-clause-second : goal.returns-clause-second
returns-clause-second c = (
  answered_wide 4 (taken_of_client 3 ∷ again_of_client 3 ∷ []) wide_set_up (script_call 3 7 Full) (lit≤ tt)
      (lit≤ tt) refl
      (lit≤ tt) refl,
  λ d. refl,
)

pub returns-clause-first_again : goal.returns-clause-first_again
returns-clause-first_again c is = grind (arith, is.1 (script_step 6))

pub returns-clause-not_answered : goal.returns-clause-not_answered
returns-clause-not_answered c is =
    other_kind wide_device 4 (taken_of_client 3 ∷ again_of_client 3 ∷ [])
    (record (script_call 3 7 Full) { reply = Poll poll.Full }) refl (λ s choice. refl) refl is.0

pub returns-clause-older_than_calls : goal.returns-clause-older_than_calls
returns-clause-older_than_calls c is = omega (arith, is.0.2.replay.within, is.0.2.same_capacity, is.0.3)

pub returns-clause-older_than_the_seat : goal.returns-clause-older_than_the_seat
returns-clause-older_than_the_seat c is = omega (arith, is.0.2.replay.within, is.0.2.same_capacity, is.0.3)
