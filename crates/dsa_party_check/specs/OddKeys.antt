-- Keys of parties that nothing reads.
use Rattle.dsa_party_check.specs.declared.complaint.Subject.TheVariants as subject
use Rattle.dsa_scenario.specs.declared.actions.StepKind.TheVariants as kind
use Rattle.std.specs.Prelude.{ℕ, ◌+◌, cond, List, [], ◌∷◌, ◌++◌, map, length, codes, Option, Some, None}
use Rattle.serde_json.specs.Data.{Data}
use Rattle.dsa_scenario.specs.declared.actions.StepKind.{StepKind}
use Rattle.dsa_scenario.specs.declared.faults.ScenarioFault.TheVariants.{BadParties, BadParty}
use Rattle.dsa_scenario.specs.{Fields.{Row}, Actions.{kind_of, rows_of_kind}}
use Rattle.dsa_plans.specs.PartyLabels.{items_or, numbered_from}
use Rattle.dsa_check.specs.Warnings.{names_of}
use Rattle.dsa_party_check.specs.declared.complaint.Inside.{Inside, TheVariants.{All, Step}}
use Rattle.dsa_party_check.specs.{Complaints.{Complained, Flawed, flaws_of}, Strays.{stray_complaints}}
use Rattle.dsa_party_check.specs.Rules.{is_submitted, is_acted}

-- what the object `parties`, a client, and an administrator may have; a remark may stand in each object
abbrev pub party_names : List (List ℕ)
party_names = codes "steps" ∷ codes "note" ∷ []

abbrev pub client_names : List (List ℕ)
client_names = codes "client" ∷ party_names

abbrev pub object_names : List (List ℕ)
object_names = codes "clients" ∷ codes "admins" ∷ codes "engines" ∷ codes "note" ∷ []

-- what any step of a party may have, and conditions, of which a fault is told
abbrev pub common_names : List (List ℕ)
common_names = codes "do" ∷ codes "as" ∷ codes "when" ∷ codes "if" ∷ codes "note" ∷ []

-- what a step of a client may have beside the keys of its kind
abbrev pub submitter_names : List (List ℕ)
submitter_names = codes "retry" ∷ codes "fault" ∷ codes "members" ∷ common_names

-- and one of an administrator
abbrev pub acting_names : Option StepKind → List (List ℕ)
acting_names (Some kind.Command) = codes "busy" ∷ common_names
acting_names (Some kind.Poll) = codes "until" ∷ common_names
acting_names kind = common_names

-- the keys of a kind
abbrev pub rows_if_any : Option StepKind → List Row
rows_if_any None = []
rows_if_any (Some kind) = rows_of_kind kind

-- those, and these
abbrev pub names_beside : Option StepKind → List (List ℕ) → List (List ℕ)
names_beside kind names = names_of (rows_if_any kind) ++ names

-- the keys of a step of a kind that nothing reads, where it may also have these
abbrev pub odd_of_kind : ℕ → Option StepKind → Data → List (List ℕ) → List Complained
odd_of_kind step kind d names = stray_complaints (Step step kind) (names_beside kind names) d

-- where the kind is none of the party's, nobody knows the keys
abbrev pub odd_of_submitter : ℕ → Data → List Complained
odd_of_submitter step d =
    cond (is_submitted (kind_of d)) (odd_of_kind step (kind_of d) d submitter_names) []

abbrev pub odd_of_act : ℕ → Data → List Complained
odd_of_act step d =
    cond (is_acted (kind_of d)) (odd_of_kind step (kind_of d) d (acting_names (kind_of d))) []

-- of a party with these keys and such steps
abbrev pub odd_of_party : List (List ℕ) → (ℕ → Data → List Complained) → Data → List Complained
odd_of_party names of_step d =
    stray_complaints All names d ++ numbered_from of_step 0 (items_or (codes "steps") d)

abbrev pub odd_client : ℕ → Data → List Flawed
odd_client number d =
    flaws_of (BadParty number) (subject.Client number) (odd_of_party client_names odd_of_submitter d)

abbrev pub odd_administrator : ℕ → ℕ → Data → List Flawed
odd_administrator clients place d = flaws_of (BadParty (clients + place)) (subject.Administrator place)
    (odd_of_party party_names odd_of_act d)

-- all keys of the object `parties` that nothing reads (profile)
abbrev pub odd_parties : Data → List Flawed
odd_parties d = flaws_of BadParties subject.Parties (stray_complaints All object_names d)
    ++ numbered_from odd_client 0 (items_or (codes "clients") d)
    ++ numbered_from (odd_administrator (length (items_or (codes "clients") d))) 0 (items_or (codes "admins") d)

abbrev pub odd_at_parties : Option Data → List Flawed
odd_at_parties None = []
odd_at_parties (Some d) = odd_parties d
