use Rattle.dsa_explore.proofs.walked.step_from.Goals as goal
use Rattle.dsa_book.specs.declared.event.Event.TheVariants as event
use Rattle.dsa_book.specs.declared.answer.Reply.TheVariants as reply
use Rattle.std.proofs.Common.{◌≡◌, ◌∙◌, Some, subst, sym}
use Rattle.dsa_book.specs.{declared.event.Event.{Event}, Machine.{next}}
use Rattle.dsa_device.specs.Running.{after_answer}
use Rattle.dsa_explore.proofs.Made.{answer-next, taken-of}
use Rattle.dsa_explore.proofs.{Covers.{taken-by}, Made.{answer-next, taken-of}, Ready.{not-taken, one-more}}

pub returns-in_default-clause-next : goal.returns-in_default-clause-next
returns-in_default-clause-next c =
    answer-next c.args.machine.now.device c.step-reply.new.self c.args.event c.step-reply.result c.step-reply.ensures
    (sym c.is_full.ensures ∙ c.if-is_full.false)

pub returns-in_default-clause-queue : goal.returns-in_default-clause-queue
returns-in_default-clause-queue c = λ q p from is. let none = sym c.in_default.is ∙ from in absurd cc

pub returns-clause-next : goal.returns-clause-next
returns-clause-next c =
    subst (λ (e : Event). next c.args.machine.now.device.state e (reply.Dispatch c.in-Some-dispatch_from.answer)
    ≡ Some c.dispatch_from.new.self.state) (sym c.in-Dispatch.is)
    (answer-next c.args.machine.now.device c.dispatch_from.new.self (event.Dispatch c.in-Dispatch.engine)
    (reply.Dispatch c.in-Some-dispatch_from.answer) c.in-Some-dispatch_from.ensures.some
    (sym c.is_full.ensures ∙ c.if-is_full.false))

pub returns-clause-queue : goal.returns-clause-queue
returns-clause-queue c = λ q p from is.
    taken-of c.in-Some-dispatch_from.answer c.in-Some.queue q p c.in-Some-dispatch_from.ensures.queue
    (sym c.in-Some.is ∙ from) is

pub returns-in_default-clause-answered : goal.returns-in_default-clause-answered
returns-in_default-clause-answered c = c.step-reply.ensures

pub returns-clause-answered : goal.returns-clause-answered
returns-clause-answered c =
    subst (λ (e : Event). after_answer c.args.machine.now.device e (reply.Dispatch c.in-Some-dispatch_from.answer)
    ≡ Some c.dispatch_from.new.self) (sym c.in-Dispatch.is) c.in-Some-dispatch_from.ensures.some

pub returns-in_default-clause-room : goal.returns-in_default-clause-room
returns-in_default-clause-room c = one-more c.args.machine.now.device c.step-reply.new.self c.args.event
    c.step-reply.result c.step-reply.ensures (sym c.is_full.ensures ∙ c.if-is_full.false)

pub returns-clause-room : goal.returns-clause-room
returns-clause-room c = one-more c.args.machine.now.device c.dispatch_from.new.self (event.Dispatch c.in-Dispatch.engine)
    (reply.Dispatch c.in-Some-dispatch_from.answer) c.in-Some-dispatch_from.ensures.some
    (sym c.is_full.ensures ∙ c.if-is_full.false)

pub returns-in_default-dispatch_from-clause-none : goal.returns-in_default-dispatch_from-clause-none
returns-in_default-dispatch_from-clause-none c = λ room t told step is.
    let taken = taken-by c.args.machine.now.device.state t c.args.event told c.in-Some.queue step (is ∙ c.in-Some.is) in
    not-taken c.args.machine.now.device.state.work c.in-Dispatch.engine taken.0 c.in-Some.queue
    (sym c.in-Dispatch.is ∙ taken.1) c.in_default-dispatch_from.ensures.unqualified taken.2
