use Rattle.dsa_book.specs.declared.event.Event.TheVariants as event
use Rattle.dsa_book.specs.declared.answer.Reply.TheVariants as reply
use Rattle.dsa_shared.proofs.locked.submit.Goals as goal
use Rattle.std.proofs.Common.{ap}
use Rattle.dsa_desc.specs.Descriptor.{read}
use Rattle.dsa_shared.proofs.Steps.{Owed, owed, seat_step}
use Rattle.dsa_shared.proofs.locked.submit.{Given.{Over}, Goals.{After-submit-answer}}

owes : (g : Over) (c : After-submit-answer g) → Owed g.L.Sharing.caps g.L.Sharing.capacity
    c.history-before.result.now c.submit-answer.new.self
    (λ number. event.Submit number c.args.queue c.args.portal c.args.kind (read c.args.bytes.now)) c.seat.inside.number
    (reply.Submit c.submit-answer.result)
owes g c = owed _ _ _ _ _ _ _ _ c.locked.invariant.3 c.state_is_replay.ensures.replay c.locked.invariant.1
    c.locked.invariant.2 c.history-before.ensures c.submit-answer.ensures

pub note-requires-clause-grown : goal.note-requires-clause-grown
note-requires-clause-grown g c =
    let s = owes g (goal.at.note-requires-clause-grown g c).After-submit-answer in
    (s.same_capacity, s.grown.0, s.grown.1)

pub invariant_of-locked : goal.invariant_of-locked
invariant_of-locked g c =
    let s = owes g (goal.at.invariant_of-locked g c).After-submit-answer in
    (c.note.ensures.total, s.same_capacity, s.same_caps, s.not_anew)

pub returns-clause-seat : goal.returns-clause-seat
returns-clause-seat g c =
    let s = owes g (goal.at.returns-clause-seat g c).After-submit-answer in
    seat_step _ _ _ _ _ _ _ _ _ _ s c.seat.view_is c.note.ensures.seen (ap (λ n. n.steps) c.note.ensures.noted)
