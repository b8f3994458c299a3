-- Where the parties of the worked script stand on a device, of which the rows say what is so.
use Rattle.std.specs.Prelude.{◌∷◌, [], false, true}
use Rattle.dsa_regs.specs.declared.Phase.TheVariants.{On, Stopping}
use Rattle.dsa_book.specs.State.{State, opening, opening_setup}
use Rattle.dsa_keys.specs.{Key.{Key, key}, Parties.{World}}
use Rattle.dsa_parties.specs.{Standing.{Standing}, Worked.{all_at, place_at}}
use Rattle.dsa_explore.specs.{Rows.{labels_of}, WorkedSearch.{lists_with_four, uneven_caps}}

-- the first client and the second administrator are through with their steps, and watch 1 has come
abbrev pub half_through : Standing
half_through = record (all_at (place_at 4 0) (place_at 4 0) 1 4) { came = false ∷ true ∷ false ∷ false ∷ [] }

-- the device and queue 1 are on, queue 0 is stopping and queue 2 is off; one entry is in queue 2, and engines have
-- three
abbrev pub stopping_state : State
stopping_state = record (opening uneven_caps) {
  work = record (opening uneven_caps).work {
    setup = record (opening_setup uneven_caps) { device = On; phases = Stopping ∷ On ∷ [] };
    content = lists_with_four;
  };
}

-- they stand there, and the labels of the entries are 20, 10, 21 and 30
abbrev pub half_through_world : World Standing
half_through_world = record {
  places = half_through;
  labels = labels_of (20 ∷ 10 ∷ 21 ∷ 30 ∷ []);
  state = stopping_state;
}

-- the key of its state
abbrev pub stopping_key : Key
stopping_key = key half_through_world.labels stopping_state
