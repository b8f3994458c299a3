-- The key of a world in bytes.
use Rattle.std.specs.Prelude.{ℕ, Bool, List, ◌++◌, length, flat_map}
use Rattle.dsa_keys.specs.{Short.{short_key}, Parties.{World}}
use Rattle.dsa_key_bytes.specs.{Numbers.{number_bytes}, KeyBytes.{number_of_flag, key_bytes}}
use Rattle.dsa_parties.specs.declared.places.ClientPlace.{ClientPlace}
use Rattle.dsa_parties.specs.Standing.{Standing}

-- how many there are, and the bytes of each
abbrev pub counted_bytes : {A : Type 0} → (A → List ℕ) → List A → List ℕ
counted_bytes bytes xs = number_bytes (length xs) ++ flat_map bytes xs

-- the bytes of where a client stands
abbrev pub client_bytes : ClientPlace → List ℕ
client_bytes place = number_bytes place.next ++ number_bytes place.refusals

-- the byte of whether something has come
abbrev pub mark_bytes : Bool → List ℕ
mark_bytes came = number_bytes (number_of_flag came)

-- the bytes of where all parties stand, and of what they remember
abbrev pub place_bytes : Standing → List ℕ
place_bytes stand =
    counted_bytes client_bytes stand.clients
    ++ (counted_bytes number_bytes stand.administrators ++ counted_bytes mark_bytes stand.came)

-- the bytes of a world: where the parties stand, what they remember, and the short key of the state
abbrev pub world_bytes : World Standing → List ℕ
world_bytes w = place_bytes w.places ++ key_bytes (short_key w.labels w.state)
