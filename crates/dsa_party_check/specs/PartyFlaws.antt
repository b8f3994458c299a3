-- What is wrong with the parties of a document, all of it, in the order in which they are read.
use Rattle.dsa_party_check.specs.declared.rules.Want.TheVariants as want
use Rattle.dsa_party_check.specs.declared.complaint.Subject.TheVariants as subject
use Rattle.dsa_scenario.specs.declared.actions.StepKind.TheVariants as kind
use Rattle.dsa_scenario.specs.declared.fields.Form.TheVariants as form
use Rattle.std.specs.Prelude.{ℕ, ◌+◌, ◌-◌, ◌==◌, cond, is_some, List, [], ◌∷◌, ◌++◌, length, codes, decimal}
use Rattle.std.specs.Prelude.{Option, Some, None}
use Rattle.serde_json.specs.{Data.{Data}, Find.{get, as_str, as_object}}
use Rattle.dsa_desc.specs.Descriptor.{read}
use Rattle.dsa_event_text.specs.Text.{count_text}
use Rattle.dsa_scenario.specs.declared.actions.StepKind.{StepKind}
use Rattle.dsa_scenario.specs.declared.faults.ScenarioFault.TheVariants.{BadParties, BadParty}
use Rattle.dsa_scenario.specs.{Fields.{Row, bits, digits_of}, Actions.{kind_of, rows_of_kind}}
use Rattle.dsa_parties.specs.declared.script.Outcomes.TheVariants.{SuccessAlone}
use Rattle.dsa_plans.specs.Said.{items_in, read_or, whole_below}
use Rattle.dsa_plans.specs.Submitters.{member_said, members_wanted, step_onto}
use Rattle.dsa_plans.specs.{Acting.{act_said}, PartyLabels.{items_or, numbered_from}}
use Rattle.dsa_check.specs.declared.finding.Aim.TheVariants.{Whole, Value}
use Rattle.dsa_check.specs.{Lines.{wanted_of}, Reasons.{found_of}}
use Rattle.dsa_party_check.specs.declared.complaint.Inside.{Inside, TheVariants.{All, Step, Member}}
use Rattle.dsa_party_check.specs.Complaints.{Complained, Flawed, flaws_of, or_general, plain_complaint}
use Rattle.dsa_party_check.specs.Rules.{Wanting, is_submitted, of_rules, of_fields, of_object, told_value}
use Rattle.dsa_party_check.specs.Rules.{digits_flaw_text}

-- ---- members

-- a text that is no descriptor
abbrev pub member_text_complaints : Inside → List ℕ → List Complained
member_text_complaints inside text = plain_complaint inside (codes "it" ++ digits_flaw_text text) ∷ []

abbrev pub member_rules : List Wanting
member_rules = (codes "desc", want.Needed form.Digits) ∷ (codes "fault", want.Fault) ∷ []

abbrev pub member_complaints_by : Inside → Data → Option (List ℕ) → List Complained
member_complaints_by inside d (Some text) = member_text_complaints inside text
member_complaints_by inside d None = of_object inside d (of_rules inside d member_rules)

-- what is wrong with a member that cannot be read
abbrev pub member_complaints : Inside → Data → List Complained
member_complaints inside d =
    cond (is_some (member_said 0 SuccessAlone d)) [] (or_general inside (member_complaints_by inside d (as_str d)))

abbrev pub member_of_step : ℕ → Option StepKind → ℕ → Data → List Complained
member_of_step step kind member d = member_complaints (Member step kind member) d

-- the descriptor counts other members than there are
abbrev pub count_complaint : Inside → ℕ → ℕ → Complained
count_complaint inside count wanted = record {
  inside = inside;
  aim = Whole;
  name = Some (codes "members");
  reason = count_text (codes "\"members\" has ") count (codes "item") (codes "items")
      ++ (codes ", the descriptor counts " ++ decimal wanted);
}

abbrev pub of_count : Inside → ℕ → ℕ → List Complained
of_count inside count wanted = cond (count == wanted) [] (count_complaint inside count wanted ∷ [])

abbrev pub count_complaints : Inside → Option (List ℕ) → Option (List Data) → List Complained
count_complaints inside (Some bytes) (Some members) = of_count inside (length members) (members_wanted (read bytes))
count_complaints inside _ _ = []

-- ---- steps of clients

abbrev pub submitter_rules : List Wanting
submitter_rules = (codes "do", want.Submits) ∷ (codes "client", want.Nothing) ∷ (codes "when", want.Nothing)
    ∷ (codes "if", want.Nothing) ∷ []

abbrev pub policy_rules : List Wanting
policy_rules =
    (codes "retry", want.Retry) ∷ (codes "fault", want.Fault) ∷ (codes "members", want.Allowed form.Array) ∷ []

-- the keys of a kind that clients make
abbrev pub submitter_rows : Option StepKind → List Row
submitter_rows (Some kind.Enqcmd) = rows_of_kind kind.Enqcmd
submitter_rows (Some kind.Movdir) = rows_of_kind kind.Movdir
submitter_rows kind = []

-- what is wrong with the step itself, and with its members
abbrev pub submission_complaints : ℕ → Inside → Data → List Complained
submission_complaints step inside d =
    of_rules inside d submitter_rules ++ of_fields inside d (submitter_rows (kind_of d))
    ++ of_rules inside d policy_rules
    ++ count_complaints inside (digits_of (codes "desc") d) (read_or [] items_in (get (codes "members") d))
    ++ numbered_from (member_of_step step (kind_of d)) 0 (items_or (codes "members") d)

-- the place of a step
abbrev pub step_inside : ℕ → Data → Inside
step_inside step d = Step step (kind_of d)

-- what is wrong with a client's step that cannot be read
abbrev pub submitter_complaints : ℕ → Data → List Complained
submitter_complaints step d = cond (is_some (step_onto [] d)) [] (or_general (step_inside step d)
    (of_object (step_inside step d) d (submission_complaints step (step_inside step d) d)))

-- ---- steps of administrators

abbrev pub acting_rules : List Wanting
acting_rules = (codes "do", want.Acts) ∷ (codes "when", want.Nothing) ∷ (codes "if", want.Nothing) ∷ []

-- what the kind asks for besides
abbrev pub rules_of_acting : Option StepKind → List Wanting
rules_of_acting (Some kind.Command) = (codes "word", want.Word) ∷ (codes "busy", want.Busy) ∷ []
rules_of_acting (Some kind.Poll) = (codes "until", want.Until) ∷ []
rules_of_acting kind = []

abbrev pub acting_rows : Option StepKind → List Row
acting_rows (Some kind.Queue) = rows_of_kind kind.Queue
acting_rows (Some kind.Group) = rows_of_kind kind.Group
acting_rows kind = []

abbrev pub acting_complaints : Inside → Data → List Complained
acting_complaints inside d = of_rules inside d acting_rules ++ of_fields inside d (acting_rows (kind_of d))
    ++ of_rules inside d (rules_of_acting (kind_of d))

-- what is wrong with an administrator's step that cannot be read
unfoldable pub act_complaints : ℕ → Data → List Complained
act_complaints step d = cond (is_some (act_said d)) [] (or_general (step_inside step d)
    (of_object (step_inside step d) d (acting_complaints (step_inside step d) d)))

-- ---- parties

abbrev pub administrator_rules : List Wanting
administrator_rules = (codes "steps", want.Needed form.Array) ∷ []

abbrev pub client_rules : List Wanting
client_rules = (codes "client", want.Allowed (bits 16)) ∷ administrator_rules

-- what is wrong with a party by these rules, and with its steps
abbrev pub party_complaints : List Wanting → (ℕ → Data → List Complained) → Data → List Complained
party_complaints rules of_step d = of_object All d
    (of_rules All d rules ++ numbered_from of_step 0 (items_or (codes "steps") d))

-- what is wrong with the client of this number, and with the administrator at a place, where so many clients come first
abbrev pub client_flaws : ℕ → Data → List Flawed
client_flaws number d =
    flaws_of (BadParty number) (subject.Client number) (party_complaints client_rules submitter_complaints d)

abbrev pub administrator_flaws : ℕ → ℕ → Data → List Flawed
administrator_flaws clients place d = flaws_of (BadParty (clients + place)) (subject.Administrator place)
    (party_complaints administrator_rules act_complaints d)

-- ---- the object `parties`

abbrev pub list_rules : List Wanting
list_rules = (codes "clients", want.Allowed form.Array) ∷ (codes "admins", want.Allowed form.Array)
    ∷ (codes "engines", want.Allowed form.Array) ∷ []

-- an item of `engines`, of which a device has so many, is no number of one
abbrev pub reason_of_item : ℕ → ℕ → Data → List ℕ
reason_of_item count place d = codes "item " ++ (decimal place ++ (codes " of \"engines\" is "
    ++ (told_value d (as_str d) ++ (codes ", " ++ (wanted_of (found_of d) (form.Whole 0 (count - 1))
    ++ codes " is wanted")))))

abbrev pub engine_complaint : ℕ → ℕ → Data → Complained
engine_complaint count place d = record {
  inside = All;
  aim = Value;
  name = Some (codes "engines");
  reason = reason_of_item count place d;
}

unfoldable pub engine_complaints : ℕ → ℕ → Data → List Complained
engine_complaints count place d =
    cond (is_some (whole_below count d)) [] (engine_complaint count place d ∷ [])

abbrev pub lists_complaints : ℕ → Data → List Complained
lists_complaints count d =
    of_rules All d list_rules ++ numbered_from (engine_complaints count) 0 (items_or (codes "engines") d)

-- what is wrong with the object, and with each party by itself, for a device with so many engines (profile)
abbrev pub object_flaws : ℕ → Data → List Flawed
object_flaws count d = flaws_of BadParties subject.Parties (lists_complaints count d)
    ++ numbered_from client_flaws 0 (items_or (codes "clients") d)
    ++ numbered_from (administrator_flaws (length (items_or (codes "clients") d))) 0 (items_or (codes "admins") d)

abbrev pub parties_rules : List Wanting
parties_rules = (codes "parties", want.Needed form.Object) ∷ []

-- what stands at `parties` of this document
abbrev pub parties_flaws : ℕ → Data → Data → List Flawed
parties_flaws count document d = cond (is_some (as_object d)) (object_flaws count d)
    (flaws_of BadParties subject.Document (of_rules All document parties_rules))
