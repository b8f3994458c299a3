-- Spaces, worlds and tables of searches that the rows speak of.
use Rattle.std.specs.Prelude.{ℕ, Bool, [], ◌∷◌, false, Option, None}
use Rattle.dsa_book.specs.declared.{event.Kind.TheVariants.{Movdir64b}, note.BatchNote.{BatchNote}}
use Rattle.dsa_keys.specs.{Parties.{Parties, World, Stored}, Short.{Descriptions}}
use Rattle.dsa_parties.specs.declared.places.Move.{Move}
use Rattle.dsa_explore.specs.declared.{found.Ask.{Ask}, stored.{Node.{Node}, Try.{Try}}}
use Rattle.dsa_explore.specs.{Search.{Space}, WorkedSearch.{uneven_caps}}

-- each label says the same: a No-op of queue 2
abbrev pub same_description : Descriptions
same_description label = record {
  desc = record { pasid = 0; flags = 0; op = 0; size = 0 };
  queue = 2;
  kind = Movdir64b;
  member = false;
}

-- parties that make no move
abbrev pub still_parties : Parties ℕ Move
still_parties = record { offer = λ place seen move. None; moved = λ place move sight. place }

-- they ask for nothing
abbrev pub still_asks : ℕ → Move → Option Ask
still_asks place move = None

-- all their worlds are good, or none is, and all have one key
abbrev pub still_space : Bool → Space ℕ Move
still_space good = record {
  caps = uneven_caps;
  parties = still_parties;
  asks = still_asks;
  good = λ w. good;
  described = same_description;
  bytes_of = λ w. 7 ∷ [];
}

-- a world that was stored at this level
abbrev pub stored_at : ℕ → World ℕ → Stored ℕ
stored_at level w = record { level = level; world = w }

-- the node of a world at this level, to which this try leads from the world of that number
abbrev pub node_from : ℕ → Try → ℕ → Node
node_from parent tried level = record { parent = parent; tried = tried; level = level }

-- the note of a batch with name 0, of which no member was fetched yet
abbrev pub note_of_a_new_batch : BatchNote
note_of_a_new_batch = record { batch = 0; count = 2; fetched = 0; failed = false; closed = false }
