use Rattle.dsa_workers.proofs.lanes.Spare.load.Goals as goal
use Rattle.std.proofs.Common.{Some, ◌∷◌, ◌++◌, [], ap, map, sym, subst, ◌∙◌, append_assoc, append-nil, arith}
use Rattle.std.proofs.lemmas.List.{map-append, Elements.{All-pop, All-push, All-same}}
use Rattle.std.specs.Vec.Iter.{drain_items}
use Rattle.dsa_workers.specs.Calls.{HasRoomForTickets}
use Rattle.std.proofs.lemmas.Grind.{common_steps}

pub loop-seat-preserved : goal.loop-seat-preserved
loop-seat-preserved g c =
    let was = c.loop-seat.invariant in
    let step = c.in-Some.ensures.steps in
    let pushed = c.push_reserved.ensures.items in
    let popped = All-pop (λ t. HasRoomForTickets t c.args.limit) _ _
    (Some c.in-Some-pop.tickets) c.in-Some-pop.ensures.items was.rooms in
    let room : HasRoomForTickets c.idle.result.tickets c.args.limit =
    subst (λ t. HasRoomForTickets t c.args.limit) (sym c.idle.ensures.1) popped.1 in
    record {
      all = append_assoc c.loop-seat.yielded (c.in-Some.seat ∷ []) (drain_items c.next.new.self)
          ∙ ap (λ z. c.loop-seat.yielded ++ z) (sym step.0) ∙ was.all;
      seats = ap (map (λ x. x.seat)) pushed ∙ map-append (λ x. x.seat) _ _
          ∙ ap (λ z. z ++ c.idle.result.seat ∷ []) was.seats
          ∙ ap (λ s. c.loop-seat.yielded ++ s ∷ []) c.idle.ensures.0;
      tickets = All-same (λ x. HasRoomForTickets x.tickets c.args.limit) _ _ pushed
          (All-push (λ x. HasRoomForTickets x.tickets c.args.limit) _ _ was.tickets room);
      rooms = popped.0;
      count = omega (arith, step.1, was.count, c.in-Some-pop.ensures.cases);
      lane_room = omega (
        arith,
        was.lane_room,
        c.in-Some-pop.ensures.cases,
        c.push_reserved.ensures.len,
        c.push_reserved.ensures.capacity,
      );
      kept = step.2.1 ∙ was.kept;
      capacity = omega (arith, step.2.2, was.capacity);
    }

pub returns-clause-seats : goal.returns-clause-seats
returns-clause-seats g c =
    let was = c.loop-seat.invariant in
    was.seats ∙ sym (append-nil c.loop-seat.yielded)
    ∙ ap (λ z. c.loop-seat.yielded ++ z) (sym c.in-None.ensures.steps.0) ∙ was.all

pub loop-seat-init : goal.loop-seat-init
loop-seat-init = grind (arith, common_steps)

pub push_reserved-requires : goal.push_reserved-requires
push_reserved-requires = grind (arith, common_steps)
