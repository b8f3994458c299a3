-- A document and keys that the worked rows speak of.
use Rattle.std.specs.Prelude.{◌≡◌, ℕ, true, false, List, [], ◌∷◌, map, filter, codes, Option, Some, None, option_map}
use Rattle.std.specs.{Prelude.{⊤}, Str.{chars}}
use Rattle.strsim.specs.Edits.{cost_at, osa_row, osa_from}
use Rattle.serde_json.specs.Data.{Data, null}
use Rattle.dsa_scenario.specs.Worked.{Fields, whole, object_of, array_of_one, fields_without, changed}
use Rattle.dsa_scenario.specs.Worked.{some_caps, poll_step, smallest_caps_text, document_text}
use Rattle.std.specs.declared.{alloc.Global.{Global}, vec.Vec.{Vec}}
use Rattle.dsa_scenario.specs.declared.faults.ScenarioFault.{ScenarioFault}
use Rattle.dsa_scenario.specs.declared.actions.StepKind.TheVariants.{Poll}
use Rattle.dsa_scenario.specs.declared.faults.ScenarioFault.TheVariants.{BadCapacity, BadStep}
use Rattle.dsa_scenario.specs.declared.fields.Form.{Form}
use Rattle.dsa_check.specs.declared.checking.{Check.{Check}, CheckForm.TheVariants.{Lines}}
use Rattle.dsa_check.specs.declared.{places.Spot.{Spot}, syntax.Wanted.{Wanted}}
use Rattle.dsa_check.specs.declared.syntax.Wanted.TheVariants as wanted
use Rattle.dsa_check.specs.declared.{fields.Key.{Key}, finding.{Finding.{Finding}, Reason.{Reason}}}
use Rattle.dsa_check.specs.declared.{finding.Reason.TheVariants.{Missing}, remarks.Remark.{Remark}}
use Rattle.dsa_scenario.specs.{Fields.{Row}, Actions.{rows_of_kind, kind_of}}
use Rattle.json.specs.Json as json
use Rattle.dsa_check.specs.{Findings.{TellsWhy}, Repeats.{keys_written, caps_written}}
use Rattle.dsa_check.specs.{Reasons.{IsReasonOf, is_unfit, near_kind}, Warnings.{near_name}}

-- a check in which warnings count as no faults, and one in which they do
abbrev pub plain_check : Check
plain_check = record { is_strict = false; form = Lines }

abbrev pub strict_check : Check
strict_check = record { is_strict = true; form = Lines }

abbrev pub right_document : Fields
right_document =
    (codes "caps", object_of some_caps) ∷
    (codes "capacity", whole 9) ∷
    (codes "steps", array_of_one (object_of poll_step)) ∷ []

-- the keys of these rows at which the value has nothing that may stand there
abbrev pub unfit_keys : Data → List Row → List (List ℕ)
unfit_keys d rows = map (λ row. row.0) (filter (is_unfit d) rows)

-- those of a step, by its kind
abbrev pub unfit_keys_of : Fields → Option (List (List ℕ))
unfit_keys_of fields = option_map (λ kind. unfit_keys (object_of fields) (rows_of_kind kind))
    (kind_of (object_of fields))

-- a key of the caps of a document
abbrev pub key_of_caps : Key
key_of_caps = record { name = record { ref_ptr = (0, 0); now = codes "slots" }; in_caps = true }

-- a key of a step
abbrev pub key_of_a_step : Key
key_of_a_step = record { name = record { ref_ptr = (0, 0); now = codes "desc" }; in_caps = false }

-- whatever its key, this is no reason of what stands there
abbrev pub IsNoReason : Form → Option Data → (Key → Reason) → Type 0
IsNoReason wanted value reason = (key : Key) → IsReasonOf key wanted value (reason key) → ⊥

-- a capacity that is too large, told at this line and this column
abbrev pub found_at : Option ℕ → Option ℕ → Vec Reason Global → Finding
found_at line column reasons =
    record { fault = BadCapacity; place = record { line = line; column = column; kind = None }; reasons = reasons }

-- a step that lacks a key, and the warning of that, which points to a place in the text
abbrev pub found_in_a_step : Vec Reason Global → Finding
found_in_a_step reasons = record {
  fault = BadStep 3;
  place = record { line = Some 5; column = None; kind = Some Poll };
  reasons = reasons;
}

abbrev pub step_without_a_key : Vec Reason Global → Remark
step_without_a_key reasons = record {
  is_warning = true;
  finding = record { ref_ptr = (0, 0); now = found_in_a_step reasons };
  reason = Some (record { ref_ptr = (0, 0); now = Missing key_of_a_step });
  spot = Some (record { at = 3; line = 2; column = 2 });
}

-- this fault of the value is not told without a reason
abbrev pub IsUntold : Data → ScenarioFault → Type 0
IsUntold document fault =
    (finding : Finding) → finding.reasons.items ≡ [] → TellsWhy [] document finding fault → ⊥

-- a document whose device has so many slots
abbrev pub document_of_slots : ℕ → Data
document_of_slots n = changed (codes "caps") (changed (codes "slots") (whole n) some_caps) right_document

-- a document whose steps are no object
abbrev pub document_of_null : Data
document_of_null = changed (codes "steps") (array_of_one null) right_document

-- a document without steps, whose caps have no slots
abbrev pub document_without_slots : Data
document_without_slots =
    object_of (
    (codes "caps", object_of (fields_without (codes "slots") some_caps)) ∷
    (codes "capacity", whole 9) ∷ [])

-- a document of the smallest device, without steps
abbrev pub right_text : List ℕ
right_text = document_text smallest_caps_text (codes "9") []

-- all that may be wanted, with some places
abbrev pub all_wanted : List Wanted
all_wanted =
    wanted.Document ∷ wanted.Value ∷ wanted.FirstItem ∷ wanted.Item ∷ wanted.FirstKey ∷ wanted.Key ∷ wanted.Colon
    ∷ wanted.More true ∷ wanted.More false ∷ wanted.Closing true 2 13 ∷ wanted.Closing false 4 15 ∷ wanted.Nothing
    ∷ wanted.Word ∷ wanted.Digit ∷ wanted.NoZero ∷ wanted.InRange ∷ wanted.DoubleQuote ∷ wanted.Quote 6 17
    ∷ wanted.Escaped ∷ wanted.Escape ∷ wanted.HexDigit ∷ wanted.Pair ∷ wanted.Depth ∷ []

-- ---- texts, as they are written

abbrev pub written_members : List (List ℕ × json.Json) → json.Members
written_members [] = json.no_members
written_members (m ∷ ms) = json.member m.0 m.1 (written_members ms)

-- the object with these members, of which a key may come twice
abbrev pub written_object : List (List ℕ × json.Json) → json.Json
written_object ms = json.object (written_members ms)

-- the keys of the caps of a text
abbrev pub keys_in_caps : json.Json → List (List ℕ)
keys_in_caps written = keys_written (caps_written (Some written))

-- a text in which a key of each object comes twice, of the steps in the second
abbrev pub written_twice : json.Json
written_twice =
    let once = written_object ((codes "do", json.null) ∷ []) in
    let twice = written_object ((codes "do", json.null) ∷ (codes "do", json.null) ∷ []) in
    written_object (
    (codes "capacity", json.null) ∷
    (codes "caps", written_object ((codes "slots", json.null) ∷ (codes "slots", json.null) ∷ [])) ∷
    (codes "steps", json.array (json.item once (json.item twice json.no_items))) ∷
    (codes "capacity", json.null) ∷ [])

-- a place in a text
abbrev pub third_line : Spot
third_line = record { at = 40; line = 3; column = 16 }

-- a text of an object that has a key twice, and the object
abbrev pub text_of_two : List ℕ
text_of_two = codes "{\"a\":1,\"a\": 2}"

abbrev pub last_of_two : Data
last_of_two = object_of ((codes "a", whole 2) ∷ [])

-- what a row unfolds to compute what is near to a name
unfoldable pub near_on_literals : ⊤
unfolding near_kind near_name chars cost_at osa_row osa_from
near_on_literals = tt
