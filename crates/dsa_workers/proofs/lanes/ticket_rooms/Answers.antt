use Rattle.dsa_workers.proofs.lanes.ticket_rooms.Goals as goal
use Rattle.std.proofs.Common.{ap, ◌+◌, ◌∙◌}
use Rattle.std.proofs.lemmas.List.{Elements.{All-nil, All-push, All-same}}
use Rattle.dsa_workers.specs.Calls.{HasRoomForTickets}

pub loop-i-init : goal.loop-i-init
loop-i-init g c = (
  c.new-rooms.ensures.len,
  All-same (λ t. HasRoomForTickets t c.args.room) _ _ c.new-rooms.ensures.items
      (All-nil (λ t. HasRoomForTickets t c.args.room)),
)

pub loop-i-preserved : goal.loop-i-preserved
loop-i-preserved g c =
    let made : HasRoomForTickets c.in_ok-new.field-0 c.args.room =
    (c.in_ok-new.ensures.none, c.in_ok-new.ensures.room) in (
      c.in_ok-push.ensures.len ∙ ap (λ n. n + 1) c.loop-i.invariant.0,
      All-same (λ t. HasRoomForTickets t c.args.room) _ _ c.in_ok-push.ensures.items
          (All-push (λ t. HasRoomForTickets t c.args.room) _ _ c.loop-i.invariant.1 made),
    )

pub returns-clause-room : goal.returns-clause-room
returns-clause-room g c = c.loop-i.invariant.1
