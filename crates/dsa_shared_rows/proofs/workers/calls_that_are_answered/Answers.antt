use Rattle.dsa_shared_rows.proofs.workers.calls_that_are_answered.Goals as goal
use Rattle.dsa_book.specs.declared.answer.DispatchAnswer.TheVariants as dispatch
use Rattle.dsa_book.specs.declared.answer.FetchAnswer.TheVariants as fetch
use Rattle.dsa_book.specs.declared.answer.FinishAnswer.TheVariants as finish
use Rattle.dsa_book.specs.declared.answer.IssueAnswer.TheVariants as issue
use Rattle.dsa_book.specs.declared.answer.PollAnswer.TheVariants as poll
use Rattle.dsa_book.specs.declared.answer.Reply.TheVariants as reply
use Rattle.dsa_book.specs.declared.answer.StartAnswer.TheVariants as start
use Rattle.dsa_book.specs.declared.answer.SubmitAnswer.TheVariants as submit
use Rattle.dsa_book.specs.declared.event.Event.TheVariants as event
use Rattle.std.proofs.Common.{[], arith, refl, rules}
use Rattle.dsa_shared_rows.proofs.ByKind.{answered_not_by, other_kind}
use Rattle.dsa_shared_rows.specs.Worked.{asked_first, drain_of_all, end_of_engine, fetch_of_engine, of_client, question}
use Rattle.dsa_shared_rows.specs.Worked.{started_by_engine, wide_device}

pub returns-clause-by_kind : goal.returns-clause-by_kind
returns-clause-by_kind c = (
  answered_not_by (of_client 0 submit.Full) (reply.Dispatch dispatch.Full) refl refl (λ s choice. refl) refl,
  answered_not_by (asked_first 3 dispatch.Full) (reply.Fetch fetch.Full) refl refl (λ s choice. refl) refl,
  answered_not_by (record (fetch_of_engine 3) { reply = reply.Fetch fetch.Full }) (reply.Start start.Full) refl refl (λ s choice. refl) refl,
  answered_not_by (started_by_engine 3 start.Full) (reply.Finish finish.Full) refl refl (λ s choice. refl) refl,
  answered_not_by (end_of_engine 3 finish.Full) (reply.Issue issue.Full) refl refl (λ s choice. refl) refl,
  answered_not_by (drain_of_all issue.Full) (reply.Poll poll.Full) refl refl (λ s choice. refl) refl,
  answered_not_by (question poll.Full) (reply.Submit submit.Full) refl refl (λ s choice. refl) refl,
)

pub returns-clause-not_answered : goal.returns-clause-not_answered
returns-clause-not_answered c is =
    other_kind wide_device 0 [] (record (question poll.Full) { event = event.Dispatch 3 }) refl (λ s choice. refl)
    refl is

pub returns-clause-no_room : goal.returns-clause-no_room
returns-clause-no_room c = search rules

pub returns-clause-older : goal.returns-clause-older
returns-clause-older c is = omega (arith, is.2.replay.within, is.2.same_capacity, is.3)
