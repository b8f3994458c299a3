-- What a document says to search.
use Rattle.std.specs.Prelude.{◌≡◌, ℕ, List, [], codes, filter_map, map, option_map, Option, Some, None}
use Rattle.std.specs.Prelude.{Result, Ok, Err}
use Rattle.serde_json.specs.{Data.{Data, Items}, Find.{get}}
use Rattle.dsa_regs.specs.declared.Caps.{Caps}
use Rattle.dsa_book.specs.declared.event.Event.{Event}
use Rattle.dsa_scenario.specs.declared.actions.{Action.{Action}, BadWord.{BadWord}}
use Rattle.dsa_scenario.specs.Actions.{action_of}
use Rattle.dsa_scenario.specs.Document.{head_of, list_of_items, IsJson, IsOpenable}
use Rattle.dsa_scenario.specs.Run.{event_of}
use Rattle.dsa_parties.specs.declared.{script.Script.{Script}, watches.Watch.{Watch}}
use Rattle.dsa_plans.specs.{Plans.{parties_said, tables_of}, PartyLabels.{entry_labels, act_labels}}

-- ---- the set-up

-- the event of an action, which a word that is no command does not have
abbrev pub event_if_any : Result Event BadWord → Option Event
event_if_any (Ok event) = Some event
event_if_any (Err word) = None

-- the event of the set-up that an action asks for, as a run has it before a name was given
abbrev pub setup_event : Action → Option Event
setup_event action = event_if_any (event_of [] action)

-- the events of the set-up (profile)
abbrev pub setup_events : List Action → List Event
setup_events actions = filter_map setup_event actions

-- ---- documents

-- the bytes are this document, which a plain run can begin: a device can be made of its caps and its capacity, and its
-- steps ask for these actions (profile)
pub record IsRunnable (bytes : List ℕ) (document : Data) (caps : Caps) (actions : List Action) : Type 0 where
  pub capacity : ℕ
  pub items : Items
  pub json : IsJson bytes document
  pub head : head_of document ≡ Some (caps, capacity, items)
  pub asked : map action_of (list_of_items items) ≡ map Some actions
  pub opens : IsOpenable caps capacity

-- a plain run of the bytes can begin; its steps are this set-up, its parties have this script and watch for this, and
-- their entries and acts have these names (profile)
pub record IsPlan
    (bytes : List ℕ) (caps : Caps) (script : Script) (setup : List Event) (labels acts : List (List ℕ))
    (watches : List Watch)
    : Type 0 where
  pub document : Data
  pub actions : List Action
  pub runnable : IsRunnable bytes document caps actions
  pub events : setup ≡ setup_events actions
  pub said : parties_said caps.engines document ≡ Ok (tables_of script)
  pub watched : script.watches.items ≡ watches
  pub entries_called : option_map entry_labels (get (codes "parties") document) ≡ Some labels
  pub acts_called : option_map act_labels (get (codes "parties") document) ≡ Some acts
