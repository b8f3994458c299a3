use Rattle.dsa_shared.proofs.locked.walk.each_matches.Given as goal
use Rattle.std.proofs.Common.{◌≡◌, take}
use Rattle.dsa_book.specs.{declared.event.Actor.TheVariants.{Admin}, Totals.{steps_of_actor}}
use Rattle.dsa_shared.specs.Seat.{client_of, engine_of_seat, number_of_seat, receipts_of}
use Rattle.dsa_shared.specs.Settle.{AgreeSoFar}

abbrev pub invariant-loop-step : goal.invariant-loop-step
invariant-loop-step g l = record {
  clients :
      AgreeSoFar number_of_seat client_of receipts_of (take l.step-index l.history) l.clients l.client_places;
  engines :
      AgreeSoFar number_of_seat engine_of_seat receipts_of (take l.step-index l.history) l.engines l.engine_places;
  admin : take l.admin_place l.admin ≡ steps_of_actor (take l.step-index l.history) Admin;
}
