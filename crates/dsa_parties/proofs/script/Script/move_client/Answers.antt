use Rattle.std.proofs.Common.{sym, ◌∙◌, arith}
use Rattle.dsa_parties.specs.Standing.{stand_of}
use Rattle.dsa_parties.proofs.Rooms.{turn-at, turn-room}
use Rattle.dsa_parties.proofs.script.Script.move_client.Goals as goal

pub place_after-requires : goal.place_after-requires
place_after-requires c = turn-room c.args.self.now (stand_of c.args.places.now) c.args.client c.in-Some.turn
    (sym c.turn.ensures ∙ c.in-Some.is)

pub index_mut-requires : goal.index_mut-requires
index_mut-requires c =
    let at = turn-at c.args.self.now (stand_of c.args.places.now) c.args.client c.in-Some.turn
    (sym c.turn.ensures ∙ c.in-Some.is) in
    omega (arith, at, c.args.places.now.clients.ok.0)
