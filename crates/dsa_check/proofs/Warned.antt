-- Warnings, one part after the other.
use Rattle.std.proofs.Common.{◌≡◌, ◌≢◌, ◌<◌, ◌+◌, ℕ, true, List, [], ◌∷◌, ◌++◌, map, length}
use Rattle.std.proofs.Common.{take, get_or, refl, sym, subst}
use Rattle.std.proofs.Common.{◌∙◌, Some, None, Bor, false, drop, bytes_eq, flat_map, String, string_bytes}
use Rattle.std.specs.declared.alloc.Global.{Global}
use Rattle.std.proofs.lemmas.List.{drop_more}
use Rattle.std.specs.{List.{AllByRecursion, list_any}, Option.{unwrap_or}}
use Rattle.serde_json.specs.{Data.{Data}, View.{view}, declared.value.Value.{Value}}
use Rattle.dsa_scenario.specs.declared.{faults.ScenarioFault.{ScenarioFault}, actions.StepKind.{StepKind}}
use Rattle.dsa_scenario.specs.Document.{IsJson}
use Rattle.json.specs.Json.{Json, document}
use Rattle.std.specs.Prelude.{Option, Result, Ok, Err, IfOk}
use Rattle.dsa_check.specs.declared.finding.{Finding.{Finding}, Reason.{Reason}, Judgement.{Judgement}}
use Rattle.dsa_check.specs.Check.{first_of, faults_warned}
use Rattle.dsa_check.specs.Lines.{reason_text}
use Rattle.dsa_check.specs.Remarks.{Said, said, said_of_reasons, said_of_warning}
use Rattle.dsa_check.specs.declared.remarks.Remark.{Remark}
use Rattle.dsa_check.specs.Reasons.{is_below, nearest_below}
use Rattle.dsa_check.specs.Warnings.{is_named, Warned, warned_in, warnings_of_step, step_warnings}
use Rattle.dsa_check.specs.Warnings.{warnings_of_value, warnings_told}
use Rattle.dsa_check.specs.Warnings.{IsOfPart, HasPlace, IsPlaceIn, AreWarningsOf}
use Rattle.dsa_check.proofs.{Items.{item_more}, Nearest.{taken, passed}, Told.{same_value}}

-- ---- the first of them

-- a warning with a line is the first, and one without a line is passed over
first_by : (part : ScenarioFault) (kind : Option StepKind) (reasons : List Reason) (more : List Warned)
    → reasons ≢ []
    → first_of (map (λ (w : Warned). w.0) (warned_in part kind (map reason_text reasons) ++ more)) ≡ Some part
first_by part kind [] more some = absurd (some refl)
first_by part kind (r ∷ rs) more some = refl

pub first_here : (finding : Finding) (more : List Finding) → finding.reasons.items ≢ []
    → first_of (faults_warned true (finding ∷ more)) ≡ Some finding.fault
first_here finding more some =
    first_by finding.fault finding.place.kind finding.reasons.items (warnings_told more) some

pub first_later : (finding : Finding) (more : List Finding) → finding.reasons.items ≡ []
    → first_of (faults_warned true (finding ∷ more)) ≡ first_of (faults_warned true more)
first_later finding more none = rw none refl

-- where none is told nothing is said
none_said_of : (finding : Finding) (reasons : List Reason) (more : List Warned) (rest : List Said)
    → (more ≡ [] → rest ≡ []) → warned_in finding.fault finding.place.kind (map reason_text reasons) ++ more ≡ []
    → said_of_reasons true finding reasons ++ rest ≡ []
none_said_of finding [] more rest f none = f none
none_said_of finding (r ∷ rs) more rest f none = absurd cc

pub none_said : (findings : List Finding) → warnings_told findings ≡ [] → flat_map said_of_warning findings ≡ []
none_said [] none = refl
none_said (f ∷ fs) none =
    none_said_of f f.reasons.items (warnings_told fs) (flat_map said_of_warning fs) (none_said fs) none

pub no_remarks : (remarks : List Remark) → map said remarks ≡ [] → remarks ≡ []
no_remarks [] none = refl
no_remarks (remark ∷ remarks) none = absurd cc

-- ---- names

pub named_by : (key : List ℕ) (names : List (Bor (List ℕ)))
    → list_any (λ (name : Bor (List ℕ)). bytes_eq name.now key) names
    ≡ is_named (map (λ (name : Bor (List ℕ)). name.now) names) key
named_by key [] = refl
named_by key (name ∷ names) = rw (named_by key names) refl

pub told_by : (key : List ℕ) (told : List (String Global))
    → list_any (λ (other : String Global). bytes_eq (string_bytes other) key) told
    ≡ is_named (map (λ (other : String Global). string_bytes other) told) key
told_by key [] = refl
told_by key (other ∷ told) = rw (told_by key told) refl

module _ (far : List ℕ → Option ℕ) (names : List (Bor (List ℕ))) (i : ℕ) (d : Bor (List ℕ)) (bound : ℕ)
    (found : Option (List ℕ)) (target : Option (List ℕ)) (distance : Option ℕ) (inside : i < length names)
    (is : distance ≡ far (get_or names i d).now)
    (so : nearest_below far bound found (map (λ (name : Bor (List ℕ)). name.now) (drop i names)) ≡ target) where
  next : drop i names ≡ get_or names i d ∷ drop (i + 1) names
  next = drop_more names i d inside

  pub name_taken : is_below bound distance ≡ true
      → nearest_below far (unwrap_or distance bound) (Some (get_or names i d).now)
      (map (λ (name : Bor (List ℕ)). name.now) (drop (i + 1) names)) ≡ target
  name_taken below = taken far bound found _ _ target distance is (rw next at so) below

  pub name_passed : is_below bound distance ≡ false
      → nearest_below far bound found (map (λ (name : Bor (List ℕ)). name.now) (drop (i + 1) names)) ≡ target
  name_passed past = passed far bound found _ _ target distance is (rw next at so) past

-- ---- of the steps

-- one item more
pub warned_more : (written : Option Json) (vs : List Value) (i : ℕ) (v : Value) (old told : List Warned)
    → i < length vs → v ≡ get_or vs i v → told ≡ old ++ step_warnings written 0 (take i (map view vs))
    → told ++ warnings_of_step written i (view v) ≡ old ++ step_warnings written 0 (take (i + 1) (map view vs))
warned_more written =
    item_more (warnings_of_step written) (step_warnings written) (λ n. refl) (λ n d ds. refl)

-- ---- places

-- a part that is no step has no place
pub placed_as : (bytes : List ℕ) (d : Data) (part : ScenarioFault)
    → ((finding : Finding) → IsOfPart part finding → IsPlaceIn bytes d finding.place part)
    → (finding : Finding) → IsOfPart part finding → HasPlace bytes d finding
placed_as bytes d part f finding h = subst (IsPlaceIn bytes d finding.place) (sym h.0) (f finding h)

-- ---- the whole

-- the warnings of the one value that the bytes are
pub warned_as : (bytes : List ℕ) (d : Data) → IsJson bytes d → (findings : List Finding)
    → warnings_told findings ≡ warnings_of_value (document bytes) d → AllByRecursion (HasPlace bytes d) findings
    → AreWarningsOf bytes findings
warned_as bytes d is findings all placed = record {
  all = λ other json. rw (← same_value bytes d other is.value json.value) all;
  placed = λ other json. rw (← same_value bytes d other is.value json.value) placed;
  none = λ none. let no : Some d ≡ None = sym is.value ∙ none is.utf8 in absurd cc;
}

pub warned_ok : {E : Type 0} (bytes : List ℕ) (d : Data) → IsJson bytes d → (r : Result Judgement E)
    → IfOk r (λ told. warnings_told told.warnings.items ≡ warnings_of_value (document bytes) d)
    → IfOk r (λ told. AllByRecursion (HasPlace bytes d) told.warnings.items)
    → IfOk r (λ told. AreWarningsOf bytes told.warnings.items)
warned_ok bytes d is (Ok told) all placed = warned_as bytes d is told.warnings.items all placed
warned_ok bytes d is (Err e) all placed = tt
