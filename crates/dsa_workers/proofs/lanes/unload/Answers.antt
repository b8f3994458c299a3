use Rattle.dsa_workers.proofs.lanes.unload.Goals as goal
use Rattle.std.proofs.Common.{◌≡◌, ◌++◌, ap, map, sym, ◌∙◌, length, vec_len, append_assoc, append-nil, arith}
use Rattle.std.proofs.Common.{[], ◌∷◌}
use Rattle.std.specs.Vec.Iter.{into_iter_items}
use Rattle.dsa_workers.proofs.Lifts.{given_all, map_grown}

pub push_reserved-requires : goal.push_reserved-requires
push_reserved-requires g c = omega (arith, c.loop-lane.invariant.seat_room, c.in-Some.ensures.steps.1)

pub push_reserved-requires-in-loop-lane : goal.push_reserved-requires-in-loop-lane
push_reserved-requires-in-loop-lane g c = omega (arith, c.loop-lane.invariant.turn_room, c.in-Some.ensures.steps.1)

pub push_reserved-requires-in-loop-lane-2 : goal.push_reserved-requires-in-loop-lane-2
push_reserved-requires-in-loop-lane-2 g c = omega (arith, c.loop-lane.invariant.ended_room, c.in-Some.ensures.steps.1)

pub loop-lane-init : goal.loop-lane-init
loop-lane-init g c =
    let start = c.into_iter-lane-iterator.ensures.into_iter_gives in
    let none : vec_len c.args.seats.now ≡ 0 = c.args.seats.now.ok.0 ∙ ap (λ z. length z) c.requires.seats.0 in
    record {
      all = start.0;
      seats = c.requires.seats.0;
      turns = sym (append-nil _);
      ended = sym (append-nil _);
      seat_room = omega (arith, none, start.1, c.requires.seats.1);
      turn_room = omega (arith, start.1, c.requires.report.0);
      ended_room = omega (arith, start.1, c.requires.report.1);
      turns_grow = omega arith;
      ended_grow = omega arith;
    }

pub loop-lane-preserved : goal.loop-lane-preserved
loop-lane-preserved g c =
    let was = c.loop-lane.invariant in
    let step = c.in-Some.ensures.steps in
    let seat = c.push_reserved.ensures in
    let turn = c.push_reserved-in-loop-lane.ensures in
    let end = c.push_reserved-in-loop-lane-2.ensures in
    record {
      all = append_assoc c.loop-lane.yielded (c.in-Some.lane ∷ []) (into_iter_items c.next.new.self)
          ∙ ap (λ z. c.loop-lane.yielded ++ z) (sym step.0) ∙ was.all;
      seats = map_grown (λ x. x.seat) _ _ [] _ _ seat.items was.seats;
      turns = map_grown (λ x. x.stint.turns) _ _ _ _ _ turn.items was.turns;
      ended = map_grown (λ x. x.stint.ended) _ _ _ _ _ end.items was.ended;
      seat_room = omega (arith, step.1, was.seat_room, seat.len, seat.capacity);
      turn_room = omega (arith, step.1, was.turn_room, turn.len, turn.capacity);
      ended_room = omega (arith, step.1, was.ended_room, end.len, end.capacity);
      turns_grow = omega (arith, was.turns_grow, turn.capacity);
      ended_grow = omega (arith, was.ended_grow, end.capacity);
    }

pub returns-clause-seats : goal.returns-clause-seats
returns-clause-seats g c =
    let was = c.loop-lane.invariant in
    let all = given_all _ _ _ _ was.all c.loop-lane.lane-iterator.rest.ok.0 c.in-None.ensures.steps.0 in
    was.seats ∙ ap (map (λ x. x.seat)) all

pub returns-clause-turns : goal.returns-clause-turns
returns-clause-turns g c =
    let was = c.loop-lane.invariant in
    let all = given_all _ _ _ _ was.all c.loop-lane.lane-iterator.rest.ok.0 c.in-None.ensures.steps.0 in
    was.turns ∙ ap (λ z. c.args.report.now.turns.items ++ map (λ x. x.stint.turns) z) all

pub returns-clause-ended : goal.returns-clause-ended
returns-clause-ended g c =
    let was = c.loop-lane.invariant in
    let all = given_all _ _ _ _ was.all c.loop-lane.lane-iterator.rest.ok.0 c.in-None.ensures.steps.0 in
    was.ended ∙ ap (λ z. c.args.report.now.ended.items ++ map (λ x. x.stint.ended) z) all

pub returns-clause-room : goal.returns-clause-room
returns-clause-room g c = (c.loop-lane.invariant.turns_grow, c.loop-lane.invariant.ended_grow)
