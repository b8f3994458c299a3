use Rattle.dsa_book.specs.declared.event.Event.TheVariants as event
use Rattle.dsa_book.specs.declared.answer.Reply.TheVariants as reply
use Rattle.dsa_shared.proofs.locked.write_queue.Goals as goal
use Rattle.std.proofs.Common.{ap}
use Rattle.dsa_shared.proofs.Steps.{Owed, owed, admin_step}
use Rattle.dsa_shared.proofs.locked.write_queue.{Given.{Over}, Goals.{After-write_queue-answer}}

owes : (g : Over) (c : After-write_queue-answer g) → Owed g.L.Sharing.caps g.L.Sharing.capacity
    c.history-before.result.now c.write_queue-answer.new.self
    (λ _. event.WriteQueue c.args.queue c.args.config) 0
    (reply.Write c.write_queue-answer.result)
owes g c = owed _ _ _ _ _ _ _ _ c.locked.invariant.3 c.state_is_replay.ensures.replay c.locked.invariant.1
    c.locked.invariant.2 c.history-before.ensures c.write_queue-answer.ensures

pub note-requires-clause-grown : goal.note-requires-clause-grown
note-requires-clause-grown g c =
    let s = owes g (goal.at.note-requires-clause-grown g c).After-write_queue-answer in
    (s.same_capacity, s.grown.0, s.grown.1)

pub invariant_of-locked : goal.invariant_of-locked
invariant_of-locked g c =
    let s = owes g (goal.at.invariant_of-locked g c).After-write_queue-answer in
    (c.note.ensures.total, s.same_capacity, s.same_caps, s.not_anew)

pub returns-clause-seat : goal.returns-clause-seat
returns-clause-seat g c =
    let s = owes g (goal.at.returns-clause-seat g c).After-write_queue-answer in
    admin_step _ _ _ _ _ _ _ _ _ _ s c.seat.view_is c.note.ensures.seen (ap (λ n. n.steps) c.note.ensures.noted)
