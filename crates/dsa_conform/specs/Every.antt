-- What is told of a document with every step that differs.
use Rattle.std.specs.Prelude.{◌≡◌, ◌+◌, ℕ, zero, suc, Bool, true, false, List, [], ◌∷◌, ◌++◌, length, take, slice_get}
use Rattle.std.specs.Prelude.{flat_map, codes, decimal, Option, Some, None}
use Rattle.serde_json.specs.Data.{Data}
use Rattle.dsa_regs.specs.declared.Caps.{Caps}
use Rattle.dsa_event_text.specs.Text.{count_text}
use Rattle.dsa_scenario.specs.declared.{actions.Action.{Action}, run.Record.{Record}}
use Rattle.dsa_scenario.specs.declared.faults.ScenarioFault.{ScenarioFault, TheVariants.{BadStep, Differs}}
use Rattle.dsa_conform.specs.Lines.{seen_count}
use Rattle.dsa_conform.specs.Run.{AreRead, IsConforming, IsDifference, IsShownRun, IsToldOf, IsVerdict}
use Rattle.dsa_conform.specs.Seen.{Seen, nothing_seen}

-- what was seen, but of the step of this number nothing (profile)
abbrev pub unseen_at : ℕ → List (Action × Seen) → List (Action × Seen)
unseen_at i [] = []
unseen_at zero (o ∷ os) = (o.0, nothing_seen) ∷ os
unseen_at (suc i) (o ∷ os) = o ∷ unseen_at i os

-- the step of this number is the first that differs, and the text tells of it (profile)
pub record IsFirstDifference (caps : Caps) (capacity : ℕ) (observed : List (Action × Seen)) (i : ℕ) (text : List ℕ)
    : Type 0 where
  pub here : Action × Seen
  pub at : slice_get observed i ≡ Some here
  pub differs : IsDifference caps capacity (take i observed) here i text

-- each of these steps, with its text, is the first that differs once nothing counts as seen of those before it in the
-- list; and what counts as seen then shows no difference (profile)
abbrev pub AreDifferences : Caps → ℕ → List (Action × Seen) → List (ℕ × List ℕ) → Type 0
AreDifferences caps capacity observed [] = (records : List Record) × IsShownRun caps capacity observed records
AreDifferences caps capacity observed (one ∷ more) =
    IsFirstDifference caps capacity observed one.0 one.1 × AreDifferences caps capacity (unseen_at one.0 observed) more

-- how many steps differ, of so many, and of how many something was seen (profile)
abbrev pub differs_text : ℕ → ℕ → ℕ → List ℕ
differs_text differing steps seen =
    count_text (codes "differs: ") differing (codes "step") (codes "steps") ++ codes " of " ++ decimal steps
    ++ count_text (codes ", ") seen (codes "answer") (codes "answers") ++ codes " seen\n"

-- step i is the first that differs, and the text tells of all that do, and how many they are (profile)
pub record AreDiffering (caps : Caps) (capacity : ℕ) (steps : List Data) (i : ℕ) (text : List ℕ) : Type 0 where
  pub observed : List (Action × Seen)
  pub read : AreRead steps observed
  pub first : List ℕ
  pub more : List (ℕ × List ℕ)
  pub differ : AreDifferences caps capacity observed ((i, first) ∷ more)
  pub is : text ≡ first ++ flat_map (λ one. one.1) more
      ++ differs_text (length more + 1) (length observed) (seen_count observed)

-- what is told of the step objects: that they conform, or of all that do not
abbrev pub IsFullVerdict : Caps → ℕ → List Data → Option ScenarioFault → List ℕ → Type 0
IsFullVerdict caps capacity steps None text = IsConforming caps capacity steps text
IsFullVerdict caps capacity steps (Some (Differs i)) text = AreDiffering caps capacity steps i text
IsFullVerdict caps capacity steps _ text = ⊥

-- the first difference, or all
abbrev pub IsVerdictOf : Bool → Caps → ℕ → List Data → Option ScenarioFault → List ℕ → Type 0
IsVerdictOf true = IsFullVerdict
IsVerdictOf false = IsVerdict

-- neither tells that an object is no step object
pub no_bad_step : (is_all : Bool) (caps : Caps) (capacity : ℕ) (steps : List Data) (i : ℕ) (text : List ℕ)
    → ¬ IsVerdictOf is_all caps capacity steps (Some (BadStep i)) text
no_bad_step true caps capacity steps i text h = h
no_bad_step false caps capacity steps i text h = h

-- the text, and the fault that is told after it, are what is made of a document by a comparison of it (profile)
abbrev pub IsConformanceOf : Bool → List ℕ → Option ScenarioFault → List ℕ → Type 0
IsConformanceOf is_all bytes fault text = IsToldOf (IsVerdictOf is_all) bytes fault text

-- ---- a walk

-- the same, where these are what counts as seen then
abbrev pub AreStruckOut : Caps → ℕ → List (Action × Seen) → List (ℕ × List ℕ) → List (Action × Seen) → Type 0
AreStruckOut caps capacity observed [] now = observed ≡ now
AreStruckOut caps capacity observed (one ∷ more) now =
    IsFirstDifference caps capacity observed one.0 one.1
    × AreStruckOut caps capacity (unseen_at one.0 observed) more now

-- so many steps of these differ, of which the text tells; the first is step i, and of the others this was seen
pub record AreFoundDiffering (caps : Caps) (capacity : ℕ) (steps : List Data) (i count : ℕ) (text : List ℕ)
    (left : List Data) : Type 0 where
  pub observed : List (Action × Seen)
  pub read : AreRead steps observed
  pub first : List ℕ
  pub more : List (ℕ × List ℕ)
  pub now : List (Action × Seen)
  pub differ : AreStruckOut caps capacity observed ((i, first) ∷ more) now
  pub counted : count ≡ length more + 1
  pub is : text ≡ first ++ flat_map (λ one. one.1) more
  pub left_is : AreRead left now
