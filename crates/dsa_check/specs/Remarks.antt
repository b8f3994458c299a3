-- What a check remarks, a line each, and where.
use Rattle.dsa_check.specs.declared.finding.Reason.TheVariants as reason
use Rattle.std.specs.Prelude.{◌≡◌, ◌+◌, ◌⊎◌, ℕ, Bool, true, false, List, [], ◌∷◌, ◌++◌, map, flat_map, codes, string_bytes}
use Rattle.std.specs.Prelude.{slice_get, slice_range, Option, Some, None, option_map, IfSome, ⊤}
use Rattle.std.specs.List.{AllByRecursion}
use Rattle.serde_json.specs.{Data.{Data}, Find.{get}, View.{view}}
use Rattle.dsa_scenario.specs.declared.faults.ScenarioFault.{ScenarioFault, TheVariants.{NotJson, BadDocument, BadStep}}
use Rattle.dsa_scenario.specs.declared.faults.ScenarioFault.TheVariants.{BadCaps, BadCapacity}
use Rattle.dsa_scenario.specs.Document.{IsJson}
use Rattle.dsa_check.specs.declared.finding.{Aim.{Aim, TheVariants.{Whole, Value, Key}}, Finding.{Finding}}
use Rattle.dsa_check.specs.declared.{finding.Reason.{Reason}, places.Spot.{Spot}}
use Rattle.dsa_check.specs.declared.remarks.{Remark.{Remark}, Walked.{Walked}, Holder.{Holder}, Holders.{Holders}}
use Rattle.dsa_check.specs.{Judgement.{step_items_of}, Members.{IsValueAt, IsKeyAt}, Places.{IsSpot, AreTextOf}}

-- ---- what is remarked

-- a fault or a warning, the finding, and one of its reasons
abbrev pub Said : Type 0
Said = Bool × Finding × Option Reason

abbrev pub said : Remark → Said
said remark = (remark.is_warning, remark.finding.now, option_map (λ r. r.now) remark.reason)

-- of a fault of which nothing finer is known there is one remark without a reason
abbrev pub reasons_or_none : List Reason → List (Option Reason)
reasons_or_none [] = None ∷ []
reasons_or_none (r ∷ rs) = map Some (r ∷ rs)

abbrev pub said_of_fault : Finding → List Said
said_of_fault finding = map (λ r. (false, finding, r)) (reasons_or_none finding.reasons.items)

abbrev pub said_of_reasons : Bool → Finding → List Reason → List Said
said_of_reasons is_warning finding reasons = map (λ r. (is_warning, finding, Some r)) reasons

abbrev pub said_of_warning : Finding → List Said
said_of_warning finding = said_of_reasons true finding finding.reasons.items

-- of all faults, and after them of all warnings
abbrev pub said_of : List Finding → List Finding → List Said
said_of faults warnings = flat_map said_of_fault faults ++ flat_map said_of_warning warnings

-- ---- what a reason points to (profile)

-- the key that a reason is of; of a key that is long or not plain it is not told
abbrev pub name_of : Reason → Option (List ℕ)
name_of (reason.Missing key) = Some key.name.now
name_of (reason.Misspelled key found) = Some (string_bytes found)
name_of (reason.Expandable key) = Some key.name.now
name_of (reason.Unfit key found wanted) = Some key.name.now
name_of (reason.OddDigits key count) = Some key.name.now
name_of (reason.ManyDigits key count) = Some key.name.now
name_of (reason.NoDigit key at) = Some key.name.now
name_of reason.NoOwnName = Some (codes "as")
name_of (reason.NoObject found) = None
name_of (reason.UnknownKind found near) = Some (codes "do")
name_of (reason.Stray found near) = option_map string_bytes found
name_of (reason.Twice found) = option_map string_bytes found
name_of reason.NotUtf8 = None
name_of (reason.Syntax syntax) = None

-- a key that is missing is sought in the whole object; one that is unknown or comes twice is pointed to itself, and of
-- all others their value
abbrev pub aim_of : Reason → Aim
aim_of (reason.Missing key) = Whole
aim_of (reason.Misspelled key found) = Key
aim_of (reason.Expandable key) = Whole
aim_of (reason.NoObject found) = Whole
aim_of (reason.Stray found near) = Key
aim_of (reason.Twice found) = Key
aim_of reason.NotUtf8 = Whole
aim_of (reason.Syntax syntax) = Whole
aim_of _ = Value

-- the key is one of the caps of a document
abbrev pub is_of_caps : Reason → Bool
is_of_caps (reason.Missing key) = key.in_caps
is_of_caps (reason.Misspelled key found) = key.in_caps
is_of_caps (reason.Expandable key) = key.in_caps
is_of_caps (reason.Unfit key found wanted) = key.in_caps
is_of_caps (reason.OddDigits key count) = key.in_caps
is_of_caps (reason.ManyDigits key count) = key.in_caps
is_of_caps (reason.NoDigit key at) = key.in_caps
is_of_caps _ = false

-- ---- where that is

-- the value that a part of a document is
abbrev pub part_at : Data → ScenarioFault → Option Data
part_at d BadDocument = Some d
part_at d (BadStep i) = slice_get (step_items_of d) i
part_at d BadCaps = get (codes "caps") d
part_at d BadCapacity = Some d
part_at d _ = None

-- the part that a reason is of: the caps, where its key is one of theirs
abbrev pub part_meant : ScenarioFault → Bool → ScenarioFault
part_meant part true = BadCaps
part_meant part false = part

-- so far from the begin of a text of the value is what is aimed at
abbrev pub IsAimedAt : List ℕ → Data → Aim → Option (List ℕ) → ℕ → Type 0
IsAimedAt text d Value (Some key) offset = (end : ℕ) × IsValueAt text d key offset end
IsAimedAt text d Key (Some key) offset = IsKeyAt text d key offset
IsAimedAt text d aim name offset = offset ≡ 0

-- the place is that to which the reason points in the value of its part: the value has a text between two places
pub record IsPointedAt (bytes : List ℕ) (part : ScenarioFault) (reason : Reason) (spot : Spot) : Type 0 where
  pub document : Data
  pub json : IsJson bytes document
  pub value : Data
  pub of_part : part_at document (part_meant part (is_of_caps reason)) ≡ Some value
  pub begin : ℕ
  pub end : ℕ
  pub text : AreTextOf value (slice_range bytes begin end)
  pub offset : ℕ
  pub aimed : IsAimedAt (slice_range bytes begin end) value (aim_of reason) (name_of reason) offset
  pub at : spot.at ≡ begin + offset
  pub placed : IsSpot bytes spot

abbrev pub IsPointedFor : List ℕ → ScenarioFault → Spot → Option Reason → Type 0
IsPointedFor bytes part spot (Some reason) = IsPointedAt bytes part reason spot
IsPointedFor bytes part spot None = ⊥

-- of a text that is no JSON it is the place of the finding
pub record IsFlawAt (bytes : List ℕ) (finding : Finding) (spot : Spot) : Type 0 where
  pub flaw : finding.fault ≡ NotJson
  pub line : finding.place.line ≡ Some spot.line
  pub column : finding.place.column ≡ Some spot.column
  pub placed : IsSpot bytes spot

-- a place that is remarked is such a one
abbrev pub IsPlacedFor : List ℕ → Finding → Option Spot → Option Reason → Type 0
IsPlacedFor bytes finding None reason = ⊤
IsPlacedFor bytes finding (Some spot) reason =
    IsFlawAt bytes finding spot ⊎ IsPointedFor bytes finding.fault spot reason

abbrev pub IsRemarkPlaced : List ℕ → Remark → Type 0
IsRemarkPlaced bytes remark =
    IsPlacedFor bytes remark.finding.now remark.spot (option_map (λ r. r.now) remark.reason)

-- the remarks are those of these faults and these warnings, each placed where it points to
pub record AreRemarksOf (bytes : List ℕ) (faults warnings : List Finding) (remarks : List Remark) : Type 0 where
  pub all : map said remarks ≡ said_of faults warnings
  pub placed : AllByRecursion (IsRemarkPlaced bytes) remarks

-- ---- what is held on the way

-- these remarks are made besides
abbrev pub Says : List Remark → List Remark → List Said → Type 0
Says old new more = map said new ≡ map said old ++ more

-- the document is what the bytes are
pub record IsWalked (bytes : List ℕ) (walked : Walked) : Type 0 where
  pub json : IsJson bytes (view walked.document.now)
  pub spot : IsSpot bytes walked.last

-- the text between the places is one of the value
pub record IsHolder (bytes : List ℕ) (holder : Holder) : Type 0 where
  pub text : AreTextOf (view holder.value.now) (slice_range bytes holder.begin.at holder.end)
  pub spot : IsSpot bytes holder.begin

-- and the value is that of the part
pub record IsHolderOf (bytes : List ℕ) (part : ScenarioFault) (holder : Holder) : Type 0 where
  pub held : IsHolder bytes holder
  pub document : Data
  pub json : IsJson bytes document
  pub of_part : part_at document part ≡ Some (view holder.value.now)

pub record AreHoldersOf (bytes : List ℕ) (part : ScenarioFault) (holders : Holders) : Type 0 where
  pub own : IfSome holders.own (IsHolderOf bytes part)
  pub caps : IfSome holders.caps (IsHolderOf bytes BadCaps)

-- the reason points to the place in the holder
pub record IsPointedIn (bytes : List ℕ) (holder : Holder) (reason : Reason) (spot : Spot) : Type 0 where
  pub offset : ℕ
  pub aimed : IsAimedAt (slice_range bytes holder.begin.at holder.end) (view holder.value.now) (aim_of reason)
      (name_of reason) offset
  pub at : spot.at ≡ holder.begin.at + offset
  pub placed : IsSpot bytes spot
