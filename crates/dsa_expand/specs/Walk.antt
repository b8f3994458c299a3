-- A run of the steps of a document, one after the other.
use Rattle.std.specs.Prelude.{◌≡◌, ◌⊎◌, ℕ, List, [], length, map, Option, Some}
use Rattle.serde_json.specs.Data.{Data}
use Rattle.dsa_regs.specs.declared.Caps.{Caps}
use Rattle.dsa_book.specs.declared.answer.Ticket.{Ticket}
use Rattle.dsa_device.specs.Running.{Running}
use Rattle.dsa_scenario.specs.declared.{actions.Action.{Action}, run.Record.{Record}}
use Rattle.dsa_scenario.specs.declared.faults.ScenarioFault.{ScenarioFault, TheVariants.{BadStep}}
use Rattle.dsa_scenario.specs.{Actions.{action_of}, Steps.{Visit, IsWalkTo}}
use Rattle.dsa_expand.specs.{Steps.{Pair, Given, given_onto, object_with}, Expansion.{AreLikely, AreStrictBy, IsUnlikelyAt}}

-- these are the records of the steps that were made
abbrev pub AreRecordsOf : List Visit → List Record → Type 0
AreRecordsOf made records = map (λ step. step.entry) made ≡ records

-- a device has come by these steps, with these tickets and these names, and they have these strict forms
pub record IsWalkedOver (caps : Caps) (capacity : ℕ) (steps : List Data) (now : Running) (tickets : List Ticket)
    (given : List Given) (strict : List (List Pair)) : Type 0 where
  pub records : List Record
  pub actions : List Action
  pub walk : IsWalkTo AreRecordsOf caps capacity actions (length steps) now tickets records
  pub by : AreStrictBy [] steps strict records
  pub asked : map action_of (map object_with strict) ≡ map Some actions
  pub named : given ≡ given_onto [] steps records

-- what is told of steps where this fault keeps a device from being made
abbrev pub IsToldOfDevice : List Data → ScenarioFault → ScenarioFault → Type 0
IsToldOfDevice steps fault told = (AreLikely steps × (told ≡ fault))
    ⊎ ((i : ℕ) × IsUnlikelyAt steps i × (told ≡ BadStep i))
