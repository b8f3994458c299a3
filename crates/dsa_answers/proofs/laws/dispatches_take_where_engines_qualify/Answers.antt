use Rattle.dsa_book.specs.declared.answer.Reply.TheVariants as reply
use Rattle.dsa_book.specs.declared.event.Event.TheVariants as event
use Rattle.dsa_answers.proofs.laws.dispatches_take_where_engines_qualify.Goals as goal
use Rattle.std.proofs.lemmas.Bool.{false_from_ne_true}
use Rattle.dsa_book.specs.{Work.{qualifies}, declared.answer.DispatchAnswer.TheVariants.{Taken, Idle}}
use Rattle.dsa_book.proofs.Nexts.{next-is}
use Rattle.dsa_answers.proofs.Choices.{not-idle}

pub returns-clause-taken : goal.returns-clause-taken
returns-clause-taken c s s' engine queue ticket h =
    (next-is s s' (event.Dispatch engine) (reply.Dispatch (Taken ticket queue)) h).0

pub returns-clause-idle : goal.returns-clause-idle
returns-clause-idle c s s' engine queue h =
    let none = (next-is s s' (event.Dispatch engine) (reply.Dispatch Idle) h).0 in
    false_from_ne_true (qualifies s.work engine queue) (λ may. not-idle s.work engine queue may none)
