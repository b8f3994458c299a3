-- The log that moves leave: which steps they are, who makes each, and for what.
use Rattle.std.specs.Prelude.{◌≡◌, ℕ, Bool, true, false, not, List, [], ◌∷◌, ◌++◌, map, filter, Option, Some}
use Rattle.std.specs.Prelude.{option_map, option_and_then, unwrap_or}
use Rattle.dsa_regs.specs.declared.Caps.{Caps}
use Rattle.dsa_book.specs.declared.event.Step.{Step}
use Rattle.dsa_book.specs.declared.answer.FetchAnswer.TheVariants.{NoBatch, AllFetched}
use Rattle.dsa_book.specs.declared.answer.{FinishAnswer.TheVariants.{Gone}, Reply.{Reply, TheVariants.{Fetch, Finish}}}
use Rattle.dsa_book.specs.{State.{State}, Machine.{is_run, replay, stored_steps}}
use Rattle.dsa_keys.specs.Parties.{Offer, World, Made, labels_for, offer_at, world_after, world_after_all}
use Rattle.dsa_keys.specs.Steps.{event_by_label}
use Rattle.dsa_parties.specs.declared.places.Move.{Move, TheVariants.{Client, Administrator, Fetch}}
use Rattle.dsa_parties.specs.declared.script.Script.{Script}
use Rattle.dsa_parties.specs.{Standing.{Standing, next_act}, Offers.{parties_of}}
use Rattle.dsa_obeys.specs.Obeys.{Doer, submits, does, fetches, works, LogLine, obeys}

-- an engine asked for what is not there: it changes nothing, and is no move
abbrev pub is_in_vain : Reply → Bool
is_in_vain (Fetch NoBatch) = true
is_in_vain (Fetch AllFetched) = true
is_in_vain (Finish Gone) = true
is_in_vain reply = false

-- the lines that are moves
abbrev pub lines_with_moves : List LogLine → List LogLine
lines_with_moves log = filter (λ (line : LogLine). not (is_in_vain line.step.reply)) log

-- who makes a move, and for what, where an entry that comes in has this label
abbrev pub doer_of : Script → Standing → Move → ℕ → Doer
doer_of script stand (Client c) label = submits c label
doer_of script stand (Administrator a) label = does a (unwrap_or (next_act script stand a) 0)
doer_of script stand (Fetch e) label = fetches label
doer_of script stand move label = works

-- the line that an offer with this reply leaves
abbrev pub line_of_offer : Script → World Standing → Made Move → Offer → Option LogLine
line_of_offer script w made offer = option_map
    (λ event. record {
      step = record { event = event; reply = made.reply };
      doer = doer_of script w.places made.move offer.label;
    })
    (event_by_label (labels_for w offer) w.state offer.event)

-- the line that a move leaves, where it may come
abbrev pub line_of_move : Script → World Standing → Made Move → Option LogLine
line_of_move script w made = option_and_then (line_of_offer script w made) (offer_at (parties_of script) w made.move)

-- the lines that these moves leave, one after the other
abbrev pub lines_of_moves : Script → World Standing → List (Made Move) → List (Option LogLine)
lines_of_moves script w [] = []
lines_of_moves script w (made ∷ rest) = line_of_move script w made
    ∷ unwrap_or
    (option_map (λ v. lines_of_moves script v rest) (world_after (parties_of script) w made.move made.reply)) []

-- the lines of the log that are moves are those of a walk from this world, which leads to a world with that state
pub record IsWalkOf (script : Script) (first : World Standing) (log : List LogLine) (s : State) : Type 0 where
  pub moves : List (Made Move)
  pub last : World Standing
  pub leads : world_after_all (parties_of script) first moves ≡ Some last
  pub lines : lines_of_moves script first moves ≡ map Some (lines_with_moves log)
  pub state : last.state ≡ s

-- these moves leave a log that obeys the script, and after the steps before it its steps are a run of a device with
-- this capacity, to the state of that world
pub record IsObeyingRun (caps : Caps) (capacity : ℕ) (script : Script) (before : List Step) (first : World Standing)
    (moves : List (Made Move)) (last : World Standing) : Type 0 where
  pub log : List LogLine
  pub lines : lines_of_moves script first moves ≡ map Some log
  pub holds : obeys script first.state log ≡ true
  pub runs : is_run caps capacity (before ++ map (λ (line : LogLine). line.step) log) ≡ true
  pub state : replay caps (stored_steps (before ++ map (λ (line : LogLine). line.step) log)) ≡ Some last.state
