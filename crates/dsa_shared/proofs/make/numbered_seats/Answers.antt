use Rattle.dsa_shared.proofs.make.numbered_seats.Goals as goal
use Rattle.std.proofs.{Common.{get_or, ap, sym, ◌∙◌, arith}, lemmas.Grind.{common_steps}}
use Rattle.dsa_shared.{specs.Seat.{SeatLog}, proofs.Fresh.{one_more}}
use Rattle.std.proofs.lemmas.Grind.{common_steps}

pub loop-room-preserved : goal.loop-room-preserved
loop-room-preserved g c = record {
  count = omega (arith, c.in-Some.ensures.steps.1, c.loop-room.invariant.count);
  len = grind (arith, common_steps);
  room = grind (arith, common_steps);
  parts = grind (arith, common_steps);
  amount = grind (arith, common_steps);
  fresh = λ k d lt. ap (λ xs. get_or xs k d) c.push_reserved.ensures.items
      ∙ one_more _ _ c.loop-room.number (sym c.loop-room.seats.ok.0 ∙ c.loop-room.invariant.len)
      (ap (λ r. let s : SeatLog = record { number = c.loop-room.number; receipts = r.steps } in
      s) c.with-receipts.ensures) c.loop-room.invariant.fresh k d lt;
}

pub push_reserved-requires : goal.push_reserved-requires
push_reserved-requires = grind (arith, common_steps)
