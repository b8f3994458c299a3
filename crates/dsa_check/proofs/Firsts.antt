-- The first fault that is told is the one that a run tells.
use Rattle.std.proofs.Common.{◌≡◌, ◌<◌, ◌≤◌, ◌^◌, ℕ, suc, Bool, true, false, nat_lt, List, [], ◌∷◌, ◌++◌}
use Rattle.std.proofs.Common.{Option, Some, None, map, length, take, refl, arith}
use Rattle.std.specs.Prelude.{slice_get}
use Rattle.std.proofs.lemmas.{List.{append_assoc, map-append}, Bool.{Decides.{nat_tests}}}
use Rattle.serde_json.specs.Data.{Data, Items}
use Rattle.dsa_regs.specs.{declared.Caps.{Caps}, Caps.{check_caps}}
use Rattle.dsa_scenario.specs.declared.{actions.Action.{Action}, faults.ScenarioFault.{ScenarioFault}}
use Rattle.dsa_scenario.specs.Actions.{action_of}
use Rattle.dsa_scenario.specs.Fields.{◌>>=◌}
use Rattle.dsa_scenario.specs.Document.{head_of, list_of_items, IsJson, HasHead, IsDocument}
use Rattle.dsa_check.specs.Judgement.{caps_at, capacity_at, items_at, list_of_optional_items, fault_of_head}
use Rattle.dsa_check.specs.Judgement.{fault_of_step, bad_steps}
use Rattle.dsa_check.specs.Judgement.{caps_faults, capacity_faults, faults_of_value, IsJudged}

-- ---- lists

item_behind : {A : Type 0} (xs : List A) (y : A) (ys : List A) → slice_get (xs ++ y ∷ ys) (length xs) ≡ Some y
item_behind [] y ys = refl
item_behind (x ∷ xs) y ys = item_behind xs y ys

front_before : {A : Type 0} (xs ys : List A) → take (length xs) (xs ++ ys) ≡ xs
front_before [] ys = refl
front_before (x ∷ xs) ys = rw (front_before xs ys) refl

one_more : {A : Type 0} (xs : List A) (y : A) (ys : List A) → (xs ++ y ∷ []) ++ ys ≡ xs ++ y ∷ ys
one_more [] y ys = refl
one_more (x ∷ xs) y ys = rw (one_more xs y ys) refl

longer : {A : Type 0} (xs : List A) (y : A) → length (xs ++ y ∷ []) ≡ suc (length xs)
longer [] y = refl
longer (x ∷ xs) y = rw (longer xs y) refl

whole_front : {A : Type 0} (xs : List A) → xs ++ [] ≡ xs
whole_front [] = refl
whole_front (x ∷ xs) = rw (whole_front xs) refl

asked_more : (xs : List Data) (d : Data) (actions : List Action) (a : Action) → action_of d ≡ Some a
    → map action_of xs ≡ map Some actions → map action_of (xs ++ d ∷ []) ≡ map Some (actions ++ a ∷ [])
asked_more xs d actions a asks h = rw (map-append, map-append, h, asks) refl

-- ---- steps

-- an item, behind others that ask something
step_then : (bytes : List ℕ) (caps : Caps) (capacity : ℕ) (all : List Data) → HasHead bytes caps capacity all
    → (done : List Data) (d : Data) (ds : List Data) (actions : List Action) (rest : List ScenarioFault)
    → done ++ d ∷ ds ≡ all → map action_of done ≡ map Some actions
    → (o : Option Action) → action_of d ≡ o
    → ((a : Action) → o ≡ Some a → IsJudged bytes (bad_steps (suc (length done)) ds ++ rest))
    → IsJudged bytes ((fault_of_step (length done) o ++ bad_steps (suc (length done)) ds) ++ rest)
step_then bytes caps capacity all head done d ds actions rest parts asked None asks next = record {
  caps = caps;
  capacity = capacity;
  steps = all;
  head = head;
  bad = record {
    done = actions;
    before = rw (← parts, front_before done (d ∷ ds)) asked;
    here = rw (← parts, item_behind done d ds, asks) refl;
  };
}
step_then bytes caps capacity all head done d ds actions rest parts asked (Some a) asks next = next a refl

-- all items, behind others that ask something, and what comes after them
steps_then : (bytes : List ℕ) (caps : Caps) (capacity : ℕ) (all : List Data) → HasHead bytes caps capacity all
    → (done ds : List Data) (actions : List Action) (rest : List ScenarioFault)
    → done ++ ds ≡ all → map action_of done ≡ map Some actions
    → ((asked : List Action) → map action_of all ≡ map Some asked → IsJudged bytes rest)
    → IsJudged bytes (bad_steps (length done) ds ++ rest)
steps_then bytes caps capacity all head done [] actions rest parts asked last =
    last actions (rw (← parts, whole_front done) asked)
steps_then bytes caps capacity all head done (d ∷ ds) actions rest parts asked last =
    step_then bytes caps capacity all head done d ds actions rest parts asked (action_of d) refl
    (λ a asks. rw (← longer done d)
    (steps_then bytes caps capacity all head (done ++ d ∷ []) ds (actions ++ a ∷ []) rest
    (rw (one_more done d ds) parts) (asked_more done d actions a asks asked) last))

-- ---- the rest

beyond_of : (m n : ℕ) → nat_lt m n ≡ true → m < n
beyond_of m n h = grind (arith, nat_tests)

within_of : (m n : ℕ) → nat_lt m n ≡ false → n ≤ m
within_of m n h = grind (arith, nat_tests)

limits_then : (bytes : List ℕ) (caps : Caps) (capacity : ℕ) (actions : List Action)
    → IsDocument bytes caps capacity actions
    → (good : Bool) → check_caps caps ≡ good → (large : Bool) → nat_lt (2 ^ 20) capacity ≡ large
    → IsJudged bytes (caps_faults (Some caps) ++ capacity_faults (Some capacity))
limits_then bytes caps capacity actions document true fits true beyond =
    rw (fits, beyond) (record {
      caps = caps;
      capacity = capacity;
      steps = document.steps;
      head = document.head;
      bad = ((actions, document.asked), (fits, beyond_of (2 ^ 20) capacity beyond));
    })
limits_then bytes caps capacity actions document true fits false within =
    rw (fits, within) (record {
      caps = caps;
      capacity = capacity;
      actions = actions;
      document = document;
      opening = record { good = fits; small = within_of (2 ^ 20) capacity within };
    })
limits_then bytes caps capacity actions document false fits large e =
    rw fits (record {
      caps = caps;
      capacity = capacity;
      steps = document.steps;
      head = document.head;
      bad = ((actions, document.asked), fits);
    })

abbrev head_by : Option Caps → Option ℕ → Option Items → Option (Caps × ℕ × Items)
head_by a b c = do
  caps ← a
  capacity ← b
  steps ← c
  Some (caps, capacity, steps)

parts_then : (bytes : List ℕ) (d : Data) → IsJson bytes d → (a : Option Caps) (b : Option ℕ) (c : Option Items)
    → head_of d ≡ head_by a b c
    → IsJudged bytes (fault_of_head (head_by a b c)
    ++ (bad_steps 0 (list_of_optional_items c) ++ (caps_faults a ++ capacity_faults b)))
parts_then bytes d json None b c h = record { document = d; json = json; none = h }
parts_then bytes d json (Some caps) None c h = record { document = d; json = json; none = h }
parts_then bytes d json (Some caps) (Some capacity) None h = record { document = d; json = json; none = h }
parts_then bytes d json (Some caps) (Some capacity) (Some items) h =
    let head : HasHead bytes caps capacity (list_of_items items) =
    record { document = d; items = items; json = json; head = h; listed = refl } in
    steps_then bytes caps capacity (list_of_items items) head [] (list_of_items items) []
    (caps_faults (Some caps) ++ capacity_faults (Some capacity)) refl refl
    (λ actions asked. limits_then bytes caps capacity actions
    (record { steps = list_of_items items; head = head; asked = asked }) (check_caps caps) refl
    (nat_lt (2 ^ 20) capacity) refl)

-- what is told of a JSON value is what a run tells
pub judged : (bytes : List ℕ) (d : Data) → IsJson bytes d → IsJudged bytes (faults_of_value d)
judged bytes d json = rw (append_assoc, append_assoc)
    (parts_then bytes d json (caps_at d) (capacity_at d) (items_at d) refl)
