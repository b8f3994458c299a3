-- Steps that show how a finding comes: those of the set-up, and then those of the parties.
use Rattle.std.specs.Prelude.{◌≡◌, ℕ, true, false, List, [], ◌∷◌, ◌++◌, length, map, Option, Some, option_map}
use Rattle.std.specs.Prelude.{option_and_then}
use Rattle.dsa_base.specs.Lists.{In}
use Rattle.dsa_regs.specs.declared.Caps.{Caps}
use Rattle.dsa_book.specs.declared.event.{Event.{Event}, Step.{Step}}
use Rattle.dsa_book.specs.Machine.{is_run, replay, stored_steps}
use Rattle.dsa_device.specs.{Running.{running_at_first, after_answer}, Runs.{IsRunOf}}
use Rattle.dsa_keys.specs.Steps.{event_by_label}
use Rattle.dsa_keys.specs.Parties.{Parties, World, Made, Offer, offer_at, labels_for, world_after, world_after_all}
use Rattle.dsa_parties.specs.declared.{places.Move.{Move}, script.Script.{Script}}
use Rattle.dsa_parties.specs.{Standing.{Standing, standing_first}, Offers.{parties_of}}
use Rattle.dsa_explore.specs.declared.{found.Finding.{Finding}, walked.Walked.{Walked}}
use Rattle.dsa_explore.specs.{Findings.{findings_of}, Explored.{AskOf, MayCome}, Asks.{ask_of}, Walked.{world_of}}

-- ---- steps of moves

-- the event that a move makes in a world: what is asked for there, with the ticket of the entry that a label stands for
abbrev pub event_of_move : {P M : Type 0} → Parties P M → World P → M → Option Event
event_of_move parties w move =
    option_and_then (λ (offer : Offer). event_by_label (labels_for w offer) w.state offer.event)
    (offer_at parties w move)

-- the step of a move and its reply
abbrev pub step_of_move : {P M : Type 0} → Parties P M → World P → Made M → Option Step
step_of_move parties w made =
    option_map (λ (event : Event). record { event = event; reply = made.reply }) (event_of_move parties w made.move)

-- the steps of these moves, one after the other, where each may follow those before it
abbrev pub steps_of_moves : {P M : Type 0} → Parties P M → World P → List (Made M) → Option (List Step)
steps_of_moves parties w [] = Some []
steps_of_moves parties w (made ∷ rest) =
    option_and_then (λ (step : Step). option_map (λ (steps : List Step). step ∷ steps)
    (option_and_then (λ v. steps_of_moves parties v rest) (world_after parties w made.move made.reply)))
    (step_of_move parties w made)

-- ---- schedules

-- the events of steps
abbrev pub schedule_events : List Step → List Event
schedule_events steps = map (λ (step : Step). step.event) steps

-- these steps make the events of a set-up and lead to this world, where the parties begin and no entry came in
pub record IsSetUp (caps : Caps) (script : Script) (setup : List Event) (steps : List Step) (first : World Standing)
    : Type 0 where
  pub events : schedule_events steps ≡ setup
  pub led : replay caps (stored_steps steps) ≡ Some first.state
  pub places : first.places ≡ standing_first script
  pub no_names : first.state.work.setup.next_name ≡ 0

-- all moves with which the finding may come
abbrev pub schedule_moves : {P M : Type 0} → {parties : Parties P M} → {asks : AskOf P M} → {first : World P}
    → {count : ℕ}
    → {finding : Finding} → MayCome parties asks first count finding → List (Made M)
schedule_moves may = may.moves ++ may.last ∷ []

-- the steps are a run of a device that has room for all of them. First come those of the set-up, and then as many as
-- this number says, which the parties make: the last of them tells the finding
pub record IsSchedule (caps : Caps) (script : Script) (setup : List Event) (count : ℕ) (finding : Finding)
    (steps : List Step) : Type 0 where
  pub allowed : is_run caps (length steps) steps ≡ true
  pub begun : List Step
  pub more : List Step
  pub parts : steps ≡ begun ++ more
  pub first : World Standing
  pub set_up : IsSetUp caps script setup begun first
  pub comes : MayCome (parties_of script) (ask_of script) first count finding
  pub made : steps_of_moves (parties_of script) first (schedule_moves comes) ≡ Some more

-- the steps are a run of a device that has room for all of them. First come those of the set-up, and then as many as
-- this number says, which the parties make: they lead to this world
pub record IsScheduleTo (caps : Caps) (script : Script) (setup : List Event) (count : ℕ) (world : World Standing)
    (steps : List Step) : Type 0 where
  pub allowed : is_run caps (length steps) steps ≡ true
  pub begun : List Step
  pub more : List Step
  pub parts : steps ≡ begun ++ more
  pub first : World Standing
  pub set_up : IsSetUp caps script setup begun first
  pub moves : List (Made Move)
  pub count_is : length moves ≡ count
  pub leads : world_after_all (parties_of script) first moves ≡ Some world
  pub made : steps_of_moves (parties_of script) first moves ≡ Some more

-- ---- devices whose steps are kept

-- a move was made on a device by this step
pub record IsMadeBy (script : Script) (old new : Walked) (move : Move) (step : Step) : Type 0 where
  pub is : step_of_move (parties_of script) (world_of old) (record { move = move; reply = step.reply }) ≡ Some step
  pub leads : world_after (parties_of script) (world_of old) move step.reply ≡ Some (world_of new)
  pub answered : after_answer old.machine.device step.event step.reply ≡ Some new.machine.device

-- and the step tells the finding
pub record IsToldBy (script : Script) (old new : Walked) (move : Move) (finding : Finding) (step : Step)
    : Type 0 where
  pub made : IsMadeBy script old new move step
  pub tells : In finding
      (findings_of (ask_of script (world_of old).places move) (world_of old) (world_of new) step.reply)

-- a device of this capacity made these steps: those of the set-up, and then so many of the parties
pub record IsEventKept (caps : Caps) (script : Script) (setup : List Event) (capacity count : ℕ) (steps : List Step)
    (walked : Walked) : Type 0 where
  pub run : IsRunOf (running_at_first caps capacity) (schedule_events steps) [] steps walked.machine.device
  pub no_past : walked.machine.device.anew ≡ false
  pub begun : List Step
  pub more : List Step
  pub parts : steps ≡ begun ++ more
  pub first : World Standing
  pub set_up : IsSetUp caps script setup begun first
  pub moves : List (Made Move)
  pub count_is : length moves ≡ count
  pub leads : world_after_all (parties_of script) first moves ≡ Some (world_of walked)
  pub made : steps_of_moves (parties_of script) first moves ≡ Some more
