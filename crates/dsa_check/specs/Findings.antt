-- What a finding tells, and that it is so of the document.
use Rattle.std.specs.Prelude.{◌≡◌, ◌≤◌, ℕ, ◌++◌, length, true, false, List, [], ◌∷◌, slice_get}
use Rattle.std.specs.Prelude.{codes, Option, Some, None}
use Rattle.std.specs.Prelude.{take, drop, IsSomeAnd, IfSome, MatchOption, IsUtf8}
use Rattle.std.specs.{List.{AllByRecursion}, Str.{IsValidUpTo}}
use Rattle.serde_json.specs.{Data.{Data}, Find.{get, as_object}}
use Rattle.dsa_scenario.specs.declared.faults.ScenarioFault.{ScenarioFault, TheVariants.{BadDocument, BadStep, BadCaps}}
use Rattle.dsa_scenario.specs.declared.faults.ScenarioFault.TheVariants.{BadCapacity}
use Rattle.dsa_scenario.specs.Document.{IsJson, IsNoJson}
use Rattle.dsa_check.specs.declared.finding.{Finding.{Finding}, Place.{Place}}
use Rattle.dsa_check.specs.declared.finding.Reason.{Reason, TheVariants.{NoObject, NotUtf8, Syntax}}
use Rattle.dsa_check.specs.{Flaws.{IsSyntaxAt}, Judgement.{step_items_of}}
use Rattle.dsa_check.specs.Places.{BeginJson, BeginsOnLine, line_after, column_after}
use Rattle.dsa_check.specs.Reasons.{found_of, AreReasonsOf, AreStepReasons}
use Rattle.dsa_scenario.specs.Actions.{kind_of}
use Rattle.dsa_check.specs.Tables.{document_rows, caps_rows, device_rows, history_rows}

-- ---- the reasons of each part

-- of the object `caps` that a document has; of another value the document tells
abbrev pub AreInCaps : Option Data → List Reason → Type 0
AreInCaps None reasons = reasons ≡ []
AreInCaps (Some caps) reasons =
    MatchOption (as_object caps) (reasons ≡ []) (λ members. AreReasonsOf caps caps_rows true reasons)

-- of the keys of a document, and after them of those of its caps
pub record AreKeyReasons (d : Data) (reasons : List Reason) : Type 0 where
  pub own : List Reason
  pub inside : List Reason
  pub both : reasons ≡ own ++ inside
  pub of_document : AreReasonsOf d document_rows false own
  pub of_caps : AreInCaps (get (codes "caps") d) inside

abbrev pub AreDocumentReasons : Data → List Reason → Type 0
AreDocumentReasons d reasons =
    MatchOption (as_object d) (reasons ≡ NoObject (found_of d) ∷ []) (λ members. AreKeyReasons d reasons)

-- ---- findings

-- no line and no column are told
pub record IsNowhere (place : Place) : Type 0 where
  pub no_line : place.line ≡ None
  pub no_column : place.column ≡ None

-- the kind and the reasons are those of the step, and the line is that where it begins
pub record TellsStep (bytes : List ℕ) (finding : Finding) (step : Data) : Type 0 where
  pub kind : finding.place.kind ≡ kind_of step
  pub reasons : AreStepReasons step finding.reasons.items
  pub line : IfSome finding.place.line (BeginsOnLine bytes step)
  pub column : finding.place.column ≡ None

-- the finding is of item i of the steps, which is this, and this is so of both
abbrev pub IsOfOne : (Finding → Data → Type 0) → ℕ → Data → Finding → Type 0
IsOfOne P i step finding = (finding.fault ≡ BadStep i) × P finding step

-- the finding is of one of the items, and this is so of both
abbrev pub IsOfAny : (Finding → Data → Type 0) → List Data → Finding → Type 0
IsOfAny P steps finding = (i : ℕ) × (finding.fault ≡ BadStep i) × IsSomeAnd (slice_get steps i) (P finding)

-- the finding tells what is wrong with item i of the steps, which is this
abbrev pub IsFindingOf : List ℕ → ℕ → Data → Finding → Type 0
IsFindingOf bytes i step finding = IsOfOne (TellsStep bytes) i step finding

-- it does so of one of the items
abbrev pub IsFindingIn : List ℕ → List Data → Finding → Type 0
IsFindingIn bytes steps finding = IsOfAny (TellsStep bytes) steps finding

-- the finding tells why the part has this fault
abbrev pub TellsWhy : List ℕ → Data → Finding → ScenarioFault → Type 0
TellsWhy bytes d finding BadDocument = IsNowhere finding.place × AreDocumentReasons d finding.reasons.items
TellsWhy bytes d finding (BadStep i) = IsSomeAnd (slice_get (step_items_of d) i) (TellsStep bytes finding)
TellsWhy bytes d finding BadCaps = IsNowhere finding.place
    × IsSomeAnd (get (codes "caps") d) (λ caps. AreReasonsOf caps device_rows false finding.reasons.items)
TellsWhy bytes d finding BadCapacity =
    IsNowhere finding.place × AreReasonsOf d history_rows false finding.reasons.items
TellsWhy bytes d finding _ = ⊥

abbrev pub IsFounded : List ℕ → Data → Finding → Type 0
IsFounded bytes d finding = TellsWhy bytes d finding finding.fault

-- the bytes before this place are right, and the reason says what is wrong there: the bytes are UTF-8 up to it and no
-- further, or a JSON text begins with those before it
abbrev pub IsWrongAt : List ℕ → ℕ → Reason → Type 0
IsWrongAt bytes at NotUtf8 = IsValidUpTo bytes at
IsWrongAt bytes at (Syntax syntax) = BeginJson (take at bytes) × IsSyntaxAt (take at bytes) (drop at bytes) syntax
IsWrongAt bytes at _ = ⊥

-- of bytes that are no UTF-8 nothing else is told
abbrev pub AreOfUtf8 : List ℕ → List Reason → Type 0
AreOfUtf8 bytes reasons = (IsUtf8 bytes → ⊥) → reasons ≡ NotUtf8 ∷ []

-- the finding has a place in the bytes, and all that is told to be wrong is so there, which is one thing at most
pub record IsInText (bytes : List ℕ) (finding : Finding) : Type 0 where
  pub at : ℕ
  pub line : finding.place.line ≡ Some (line_after (take at bytes))
  pub column : finding.place.column ≡ Some (column_after (take at bytes))
  pub reasons : AllByRecursion (IsWrongAt bytes at) finding.reasons.items
  pub few : length finding.reasons.items ≤ 1
  pub of_utf8 : AreOfUtf8 bytes finding.reasons.items

-- each finding tells why: of the JSON value that the bytes are, or of bytes that are none
pub record AreFounded (bytes : List ℕ) (findings : List Finding) : Type 0 where
  pub json : (d : Data) → IsJson bytes d → AllByRecursion (IsFounded bytes d) findings
  pub text : IsNoJson bytes → AllByRecursion (IsInText bytes) findings

-- ---- what is added to a list

-- new is old, and after it what this is so of
abbrev pub Appends : {X : Type 0} → (List X → Type 0) → List X → List X → Type 0
Appends {X} P old new = (more : List X) × (new ≡ old ++ more) × P more

-- new is old, and after it some of each of which this is so
abbrev pub AppendsAll : {X : Type 0} → (X → Type 0) → List X → List X → Type 0
AppendsAll P old new = Appends (AllByRecursion P) old new
