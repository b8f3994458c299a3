-- The own names that a dialogue knows.
use Rattle.std.specs.Prelude.{Bool, true, false, List, [], ◌∷◌, Option, Some, None, option_map, map}
use Rattle.std.specs.Global.{Vec}
use Rattle.serde_json.specs.Data.{Data}
use Rattle.dsa_scenario.specs.declared.run.Record.{Record}
use Rattle.dsa_expand.specs.declared.steps.GivenName.{GivenName}
use Rattle.dsa_expand.specs.{Steps.{Given, given_onto, with_given}, Members.{given_as}}
use Rattle.dsa_serve.specs.declared.session.Session.{Session}

-- the own names that were given so far; a strict dialogue knows of none (profile)
abbrev pub Names : Type 0
Names = Option (List Given)

-- those that the program holds, and those that a session of it knows
abbrev pub names_in : Option (Vec GivenName) → Names
names_in held = option_map (λ given. map given_as given.items) held

abbrev pub own_names_of : {S : Type 0} → Session S → Names
own_names_of session = names_in session.names

-- before any step
abbrev pub first_names : (is_friendly : Bool) → Names
first_names true = Some []
first_names false = None

-- after these steps, with these records
abbrev pub names_over : Names → List Data → List Record → Names
names_over None steps records = None
names_over (Some given) steps records = Some (given_onto given steps records)

-- after one step object, if there is one, and its record, if it was made
abbrev pub names_given_by : Names → Option Data → List Record → Names
names_given_by (Some given) (Some step) (entry ∷ entries) = Some (with_given given step entry)
names_given_by names step made = names
