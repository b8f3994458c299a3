-- Devices on which the parties of a script moved, as worlds.
use Rattle.std.specs.Prelude.{◌≡◌, ◌⊎◌, ℕ, ◌^◌, ◌<◌, true, false, List, [], length, map, Option, Some}
use Rattle.std.specs.Prelude.{option_map, is_some, IfSome}
use Rattle.dsa_regs.specs.{declared.Caps.{Caps}, Caps.{check_caps}}
use Rattle.dsa_book.specs.declared.event.{Event.{Event}, Step.{Step}}
use Rattle.dsa_book.specs.Machine.{is_run, replay, stored_steps}
use Rattle.dsa_book.specs.State.{State}
use Rattle.dsa_keys.specs.Parties.{World, offer_at}
use Rattle.dsa_parties.specs.declared.places.Move.{Move}
use Rattle.dsa_parties.specs.declared.script.Script.{Script}
use Rattle.dsa_parties.specs.{Standing.{Standing, stand_of, standing_first}, Offers.{parties_of}}
use Rattle.dsa_parties.specs.{Good.{is_good}, Described.{described_by}}
use Rattle.dsa_explore.specs.{Explored.{AreFindings}, Counted.{CountsStates, NeedsMoves}, Asks.{ask_of}}
use Rattle.dsa_explore.specs.Ends.{AreEndings}
use Rattle.dsa_explore.specs.declared.{found.{Explored.{Explored}}}
use Rattle.dsa_explore.specs.declared.{walked.{Offered.{Offered}, Walked.{Walked}}}
use Rattle.dsa_explore.specs.{Rows.{labels_of}, Search.{Space}, Keys.{world_bytes}}

-- the parties of a script on a device
abbrev pub space_of : Caps → Script → Space Standing Move
space_of caps script = record {
  caps = caps;
  parties = parties_of script;
  asks = ask_of script;
  good = is_good script;
  described = described_by script;
  bytes_of = world_bytes;
}

-- a device as a world
abbrev pub world_of : Walked → World Standing
world_of walked = record {
  places = stand_of walked.places;
  labels = labels_of walked.labels.items;
  state = walked.machine.device.state;
}

-- what is offered is what the parties ask for
abbrev pub IsOffer : Script → Walked → Move → Option Offered → Type 0
IsOffer script walked by offered =
    option_map (λ (o : Offered). record { event = o.event; label = o.label }) offered
    ≡ offer_at (parties_of script) (world_of walked) by

-- a run of these events leads a device with these capabilities to this state; its history has room for all of them
pub record IsLedTo (caps : Caps) (events : List Event) (s : State) : Type 0 where
  pub steps : List Step
  pub events_are : map (λ (step : Step). step.event) steps ≡ events
  pub allowed : is_run caps (length events) steps ≡ true
  pub led : replay caps (stored_steps steps) ≡ Some s

-- no device can be made with these capabilities and a history for so many steps
abbrev pub HasNoDevice : Caps → ℕ → Type 0
HasNoDevice caps capacity = (check_caps caps ≡ false) ⊎ (2 ^ 20 < capacity)

-- the parties begin where these events led a device to; no entry came in, and no name has a label
pub record IsFirst (caps : Caps) (script : Script) (events : List Event) (w : World Standing) : Type 0 where
  pub device : ¬ (HasNoDevice caps (length events))
  pub led : IsLedTo caps events w.state
  pub places : w.places ≡ standing_first script
  pub no_names : w.state.work.setup.next_name ≡ 0
  pub no_labels : w.labels ≡ labels_of []

-- these events lead a device to a state in which a name was given: an entry came in
pub record LetsEntryIn (caps : Caps) (events : List Event) : Type 0 where
  pub state : State
  pub led : IsLedTo caps events state
  pub named : 0 < state.work.setup.next_name

-- there is no device for these events, or they let an entry in
abbrev pub CannotBegin : Caps → List Event → Type 0
CannotBegin caps events = HasNoDevice caps (length events) ⊎ LetsEntryIn caps events

-- where the set-up led to, the rows may come, and all that may come is a row where the search is complete; the states
-- are counted; and where it is complete, it says how runs can end: they can end so and in no other way
pub record IsExplored (caps : Caps) (script : Script) (events : List Event) (explored : Explored) : Type 0 where
  pub first : World Standing
  pub begun : IsFirst caps script events first
  pub findings : AreFindings (parties_of script) (ask_of script) first explored.rows.items explored.is_complete
  pub counted : CountsStates (parties_of script) world_bytes first explored
  pub says_ends : is_some explored.ends ≡ explored.is_complete
  pub ended : IfSome explored.ends (λ endings. AreEndings script first endings.items)

-- where the set-up led to, some state needs as many moves as the depth
pub record NeedsDepth (caps : Caps) (script : Script) (events : List Event) (explored : Explored) : Type 0 where
  pub first : World Standing
  pub begun : IsFirst caps script events first
  pub needed : NeedsMoves (parties_of script) world_bytes first explored.depth
