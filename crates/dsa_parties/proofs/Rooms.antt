-- A turn of a client is within the tables, and behind it there is room.
use Rattle.std.proofs.Common.{◌≡◌, ℕ, ◌+◌, ◌^◌, ◌<◌, length, Some}
use Rattle.std.proofs.lemmas.Option.{slice_get_within}
use Rattle.dsa_parties.specs.declared.{places.ClientTurn.{ClientTurn}, script.Script.{Script}}
use Rattle.dsa_parties.specs.Standing.{Standing, turn_of}
use Rattle.dsa_parties.proofs.{ClientTurns.{is-turn, turn-submission}, Stands.{room-behind}}

pub turn-at : (script : Script) (stand : Standing) (c : ℕ) (turn : ClientTurn) → turn_of script stand c ≡ Some turn
    → c < length stand.clients
turn-at script stand c turn h =
    let t = is-turn script stand c turn h in
    slice_get_within stand.clients c turn.place t.at_place

pub turn-room : (script : Script) (stand : Standing) (c : ℕ) (turn : ClientTurn) → turn_of script stand c ≡ Some turn
    → turn.place.next + 1 + turn.submission.members < 2 ^ 32
turn-room script stand c turn h =
    let t = is-turn script stand c turn h in
    room-behind script c turn.place.next t.client turn.submission t.at_client (turn-submission t) t.below
