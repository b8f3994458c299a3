-- The parties of a document, as the tables of a script.
use Rattle.std.specs.Prelude.{ℕ, ◌+◌, ◌^◌, Bool, cond, ◌&&◌, nat_le, nat_lt, List, [], ◌∷◌, length, codes}
use Rattle.std.specs.Prelude.{Option, Some, ok_or}
use Rattle.std.specs.Prelude.{Result, Ok, Err}
use Rattle.serde_json.specs.{Data.{Data}, Find.{get, as_object}}
use Rattle.dsa_base.specs.Numbers.{numbers_below}
use Rattle.dsa_scenario.specs.Fields.{◌>>=◌}
use Rattle.dsa_scenario.specs.declared.faults.ScenarioFault.{ScenarioFault}
use Rattle.dsa_scenario.specs.declared.faults.ScenarioFault.TheVariants.{NoParties, BadParties, BadParty, TooManyParties}
use Rattle.dsa_parties.specs.declared.script.{Act.{Act}, ClientScript.{ClientScript}, Part.{Part}}
use Rattle.dsa_parties.specs.declared.script.ScriptEntry.{ScriptEntry}
use Rattle.dsa_parties.specs.declared.script.Script.{Script}
use Rattle.dsa_plans.specs.Said.{read_or, items_in, whole_below, each_onto, read_onto}
use Rattle.dsa_plans.specs.{Submitters.{Submitters, client_onto}, Acting.{Acting, administrator_onto}}

-- ---- tables

-- the tables of a script
pub record Tables : Type 0 where
  pub entries : List ScriptEntry
  pub clients : List ClientScript
  pub acts : List Act
  pub administrators : List Part
  pub engines : List ℕ

-- those of a value of the program
abbrev pub tables_of : Script → Tables
tables_of script = record {
  entries = script.entries.items;
  clients = script.clients.items;
  acts = script.acts.items;
  administrators = script.administrators.items;
  engines = script.engines.items;
}

-- no more than this
abbrev pub are_few : Tables → Bool
are_few t =
    nat_le (length t.clients) 16
    && nat_le (length t.administrators) 8
    && nat_le (length t.entries) 256
    && nat_lt (length t.acts) (2 ^ 32)

-- ---- parties

-- the second step, where the first gave a value
abbrev pub ok_and_then : {A B E : Type 0} → (A → Result B E) → Result A E → Result B E
ok_and_then f (Ok x) = f x
ok_and_then f (Err e) = Err e

-- the parties one after the other, from this number on; the first that cannot be read is bad
abbrev pub parties_onto : {A : Type 0} → (A → Data → Option A) → ℕ → A → List Data → Result A ScenarioFault
parties_onto onto number done [] = Ok done
parties_onto onto number done (d ∷ ds) =
    ok_and_then (λ more. parties_onto onto (number + 1) more ds) (ok_or (onto done d) (BadParty number))

-- the lists of the object `parties`
pub record PartyLists : Type 0 where
  pub clients : List Data
  pub administrators : List Data
  pub engines : List ℕ

-- the numbers of engines, each of which the device has
abbrev pub engines_in : ℕ → Data → Option (List ℕ)
engines_in count d = items_in d >>= λ items. each_onto (read_onto (whole_below count)) [] items

-- those lists, for a device with so many engines; where nothing stands there are no clients, no administrators, and all
-- engines
abbrev pub party_lists : ℕ → Data → Option PartyLists
party_lists count d = do
  members ← as_object d
  clients ← read_or [] items_in (get (codes "clients") d)
  administrators ← read_or [] items_in (get (codes "admins") d)
  engines ← read_or (numbers_below count) (engines_in count) (get (codes "engines") d)
  Some (record { clients = clients; administrators = administrators; engines = engines })

-- the tables of what both kinds of parties do
abbrev pub tables_with : List ℕ → Submitters → Acting → Tables
tables_with engines submitters acting = record {
  entries = submitters.0;
  clients = submitters.1;
  acts = acting.0;
  administrators = acting.1;
  engines = engines;
}

abbrev pub few_tables : Tables → Result Tables ScenarioFault
few_tables t = cond (are_few t) (Ok t) (Err TooManyParties)

-- the tables of these parties: clients first, then administrators, counted together
abbrev pub tables_said : PartyLists → Result Tables ScenarioFault
tables_said lists = ok_and_then
    (λ submitters. ok_and_then (λ acting. few_tables (tables_with lists.engines submitters acting))
    (parties_onto administrator_onto (length lists.clients) ([], []) lists.administrators))
    (parties_onto client_onto 0 ([], []) lists.clients)

-- the tables of the object `parties`, for a device with so many engines
abbrev pub script_said : ℕ → Data → Result Tables ScenarioFault
script_said count d = ok_and_then tables_said (ok_or (party_lists count d) BadParties)

-- the tables of the parties of a document, for a device with so many engines (profile)
abbrev pub parties_said : ℕ → Data → Result Tables ScenarioFault
parties_said count document = ok_and_then (script_said count) (ok_or (get (codes "parties") document) NoParties)
