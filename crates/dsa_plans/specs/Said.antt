-- What stands at the keys of a party and of its steps.
use Rattle.std.specs.Prelude.{ℕ, ◌^◌, Bool, true, false, List, [], ◌∷◌, ◌++◌, codes, bytes_eq, Option, Some, None}
use Rattle.std.specs.Prelude.{is_none}
use Rattle.std.specs.Prelude.{option_map, option_and_then}
use Rattle.std.specs.List.{list_all}
use Rattle.serde_json.specs.Data.{Data}
use Rattle.serde_json.specs.Find.{get, as_number, as_u64, as_bool, as_str, as_array}
use Rattle.dsa_base.specs.Rows.{first_row, when}
use Rattle.dsa_scenario.specs.{Fields.{◌>>=◌, below_limit}, Document.{list_of_items}}
use Rattle.dsa_parties.specs.declared.script.Outcomes.{Outcomes, TheVariants.{SuccessAlone, PageFaultAlone, Both}}
use Rattle.dsa_parties.specs.declared.script.RetryPolicy.{RetryPolicy, TheVariants.{GiveUp, Again, AtMost}}
use Rattle.dsa_parties.specs.declared.script.Until.{Until, TheVariants.{Once, Finished, Over}}

-- ---- keys

-- none of these keys stands there
abbrev pub lacks : List (List ℕ) → Data → Bool
lacks keys d = list_all (λ key. is_none (get key d)) keys

-- what is read there, or where nothing stands there the default
abbrev pub read_or : {A : Type 0} → A → (Data → Option A) → Option Data → Option A
read_or default reading None = Some default
read_or default reading (Some d) = reading d

-- the items of an array
abbrev pub items_in : Data → Option (List Data)
items_in d = option_map list_of_items (as_array d)

-- a whole number without sign below the limit
abbrev pub whole_below : ℕ → Data → Option ℕ
whole_below limit d = option_and_then (below_limit limit) (option_and_then as_u64 (as_number d))

-- ---- one after the other

-- what is made of these, one after the other, as long as each goes on
abbrev pub each_onto : {A : Type 0} → (A → Data → Option A) → A → List Data → Option A
each_onto onto done [] = Some done
each_onto onto done (d ∷ ds) = onto done d >>= λ more. each_onto onto more ds

-- the list, and what is read behind it
abbrev pub read_onto : {A : Type 0} → (Data → Option A) → List A → Data → Option (List A)
read_onto reading done d = option_map (λ x. done ++ x ∷ []) (reading d)

-- ---- words

-- what a client does when it is told to retry: a word, or how often it submits again at most
abbrev pub retry_called : List ℕ → Option RetryPolicy
retry_called word =
    first_row ((bytes_eq word (codes "give-up"), GiveUp) ∷ (bytes_eq word (codes "again"), Again) ∷ [])

abbrev pub retry_by : Data → Option (List ℕ) → Option RetryPolicy
retry_by d (Some word) = retry_called word
retry_by d None = option_map AtMost (whole_below (2 ^ 32) d)

abbrev pub retry_said : Data → Option RetryPolicy
retry_said d = retry_by d (as_str d)

-- the outcomes that an engine may give: whether a fault comes, or that it may
abbrev pub outcomes_of_fault : Bool → Outcomes
outcomes_of_fault true = PageFaultAlone
outcomes_of_fault false = SuccessAlone

abbrev pub outcomes_by : Data → Option (List ℕ) → Option Outcomes
outcomes_by d (Some word) = when (bytes_eq word (codes "may")) Both
outcomes_by d None = option_map outcomes_of_fault (as_bool d)

abbrev pub outcomes_said : Data → Option Outcomes
outcomes_said d = outcomes_by d (as_str d)

-- whether a command is issued again while another is active
abbrev pub busy_called : List ℕ → Option Bool
busy_called word =
    first_row ((bytes_eq word (codes "give-up"), false) ∷ (bytes_eq word (codes "again"), true) ∷ [])

abbrev pub busy_said : Data → Option Bool
busy_said d = option_and_then busy_called (as_str d)

-- which answer ends the polling
abbrev pub until_called : List ℕ → Option Until
until_called word = first_row (
    (bytes_eq word (codes "once"), Once) ∷
    (bytes_eq word (codes "finished"), Finished) ∷
    (bytes_eq word (codes "over"), Over) ∷ [])

abbrev pub until_said : Data → Option Until
until_said d = option_and_then until_called (as_str d)
