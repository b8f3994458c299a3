use Rattle.dsa_shared_rows.proofs.workers.next_commands.Goals as goal
use Rattle.dsa_book.specs.declared.answer.IssueAnswer.TheVariants as issue
use Rattle.dsa_book.specs.declared.answer.PollAnswer.TheVariants as poll
use Rattle.std.proofs.Common.{[], ◌∷◌, ◌++◌, arith, lit≤, refl}
use Rattle.dsa_regs.specs.declared.Command.TheVariants.{DrainAll}
use Rattle.dsa_book.specs.declared.answer.Reply.TheVariants.{Poll}
use Rattle.dsa_shared_rows.proofs.ByKind.{answered_wide, other_kind}
use Rattle.dsa_shared_rows.specs.Worked.{drain_of_all, question, wide_device, wide_with_entry}

pub returns-clause-first : goal.returns-clause-first
returns-clause-first c =
    (answered_wide 9 [] wide_with_entry (drain_of_all issue.Active) (lit≤ tt) (lit≤ tt) refl (lit≤ tt) refl, λ d. refl)

pub returns-clause-asked : goal.returns-clause-asked
returns-clause-asked c = (
  answered_wide 9 (drain_of_all issue.Active ∷ []) (wide_with_entry ++ drain_of_all issue.Active ∷ [])
      (question poll.Active) (lit≤ tt) (lit≤ tt) refl (lit≤ tt) refl,
  λ d. refl,
)

pub returns-clause-not_asked : goal.returns-clause-not_asked
returns-clause-not_asked c is = grind (arith, is.1 DrainAll)

pub returns-clause-not_answered : goal.returns-clause-not_answered
returns-clause-not_answered c is =
    other_kind wide_device 9 [] (record (drain_of_all issue.Active) { reply = Poll poll.Full }) refl (λ s choice. refl)
    refl is.0

pub returns-clause-older_than_calls : goal.returns-clause-older_than_calls
returns-clause-older_than_calls c is = omega (arith, is.0.2.replay.within, is.0.2.same_capacity, is.0.3)

pub returns-clause-older_than_the_seat : goal.returns-clause-older_than_the_seat
returns-clause-older_than_the_seat c is = omega (arith, is.0.2.replay.within, is.0.2.same_capacity, is.0.3)
