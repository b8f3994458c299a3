use Rattle.dsa_book.specs.declared.event.Event.TheVariants as event
use Rattle.dsa_book.specs.declared.answer.Reply.TheVariants as reply
use Rattle.dsa_shared.proofs.locked.finish.Goals as goal
use Rattle.std.proofs.Common.{ap}
use Rattle.dsa_shared.proofs.Steps.{Owed, owed, seat_step}
use Rattle.dsa_shared.proofs.locked.finish.{Given.{Over}, Goals.{After-finish-answer}}

owes : (g : Over) (c : After-finish-answer g) → Owed g.L.Sharing.caps g.L.Sharing.capacity
    c.history-before.result.now c.finish-answer.new.self
    (λ number. event.Finish number c.args.ticket c.args.outcome) c.seat.inside.number
    (reply.Finish c.finish-answer.result)
owes g c = owed _ _ _ _ _ _ _ _ c.locked.invariant.3 c.state_is_replay.ensures.replay c.locked.invariant.1
    c.locked.invariant.2 c.history-before.ensures c.finish-answer.ensures

pub note-requires-clause-grown : goal.note-requires-clause-grown
note-requires-clause-grown g c =
    let s = owes g (goal.at.note-requires-clause-grown g c).After-finish-answer in
    (s.same_capacity, s.grown.0, s.grown.1)

pub invariant_of-locked : goal.invariant_of-locked
invariant_of-locked g c =
    let s = owes g (goal.at.invariant_of-locked g c).After-finish-answer in
    (c.note.ensures.total, s.same_capacity, s.same_caps, s.not_anew)

pub returns-clause-seat : goal.returns-clause-seat
returns-clause-seat g c =
    let s = owes g (goal.at.returns-clause-seat g c).After-finish-answer in
    seat_step _ _ _ _ _ _ _ _ _ _ s c.seat.view_is c.note.ensures.seen (ap (λ n. n.steps) c.note.ensures.noted)
