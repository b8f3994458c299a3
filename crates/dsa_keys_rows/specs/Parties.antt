-- Parties of one client with one submission, and the table of a search from any state in which no name was given.
use Rattle.std.specs.Prelude.{ℕ, ◌==◌, ◌&&◌, Bool, true, cond, List, [], ◌∷◌, Some, None}
use Rattle.dsa_book.specs.declared.event.{Event.TheVariants.{Submit}, Portal.TheVariants.{Limited}}
use Rattle.dsa_book.specs.declared.event.{Kind.TheVariants.{Enqcmd}}
use Rattle.dsa_book.specs.{declared.{answer.Reply.{Reply}, fate.FateRow.{FateRow}}, State.{State, opening}}
use Rattle.dsa_worked.specs.{Setup.{no_op}, Uneven.{three_two_one}}
use Rattle.dsa_keys_rows.specs.Holding.{hundreds, after_fates}
use Rattle.dsa_keys.specs.Parties.{Offer, Parties, World, Stored, world_with}

-- the state of a new device
abbrev pub at_first : State
at_first = opening three_two_one

-- the submission, whose entry has label 5
abbrev pub the_offer : Offer
the_offer = record { event = Submit 0 0 Limited (Enqcmd 5) no_op; label = 5 }

-- move 0 makes it at place 0, and leads to place 1 whatever the reply
abbrev pub one_client : Parties ℕ ℕ
one_client = record {
  offer = λ place seen move. cond (place == 0 && move == 0) (Some the_offer) None;
  moved = λ place move sight. 1;
}

-- at place 0 no name was given
abbrev pub unnamed_before : World ℕ → Bool
unnamed_before w = cond (w.places == 0) (w.state.work.setup.next_name == 0) true

-- the world before the submission
abbrev pub world_before : State → World ℕ
world_before s = record { places = 0; labels = λ name. 0; state = s }

-- the world behind it
abbrev pub world_behind : State → Reply → State → World ℕ
world_behind s reply s' = world_with one_client (world_before s) 0 reply the_offer s'

-- the table of the search
abbrev pub two_worlds : State → Reply → State → List (Stored ℕ)
two_worlds s reply s' =
    record { level = 0; world = world_before s } ∷ record { level = 1; world = world_behind s reply s' } ∷ []

-- a world of which these have ended
abbrev pub world_that_ended : List FateRow → World ℕ
world_that_ended rows =
    record { places = 1; labels = hundreds; state = record { work = after_fates rows; active = None } }
