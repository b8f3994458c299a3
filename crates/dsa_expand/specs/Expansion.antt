-- The strict form of a document.
use Rattle.std.specs.Prelude.{◌≡◌, ◌<◌, ◌≤◌, ◌⊎◌, ⊤, ℕ, ◌^◌, Bool, true, false, not, ◌||◌, List, [], ◌∷◌, ◌++◌, Option, Some}
use Rattle.std.specs.Prelude.{None, option_map, length, map, filter, take, slice_get, codes, bytes_eq}
use Rattle.std.specs.List.{list_any}
use Rattle.serde_json.specs.{Data.{Data, Items, array, object, no_members, put}, Find.{get}, View.{items_of}}
use Rattle.dsa_regs.specs.declared.Caps.{Caps}
use Rattle.dsa_book.specs.Machine.{is_run}
use Rattle.dsa_scenario.specs.declared.{actions.Action.{Action}, run.Record.{Record}}
use Rattle.dsa_scenario.specs.{Actions.{action_of}, Run.{AreOf, steps_of_records}}
use Rattle.dsa_scenario.specs.declared.faults.ScenarioFault.{ScenarioFault}
use Rattle.dsa_scenario.specs.declared.faults.ScenarioFault.TheVariants.{NotJson, BadDocument, BadStep, TooLong}
use Rattle.dsa_scenario.specs.Document.{head_of, list_of_items, HasNoHead, IsDocument, IsJson, IsNoJson}
use Rattle.dsa_scenario.specs.Document.{IsOpenable, IsOpeningFault}
use Rattle.dsa_expand.specs.Values.{pairs_of}
use Rattle.dsa_expand.specs.Steps.{Pair, Given, put_all, object_with, with_given, given_onto, strict_step, is_friendly}
use Rattle.dsa_expand.specs.Layout.{IsDocumentText}

-- ---- the strict document

abbrev pub pair_at : List ℕ → Option Data → List Pair
pair_at key None = []
pair_at key (Some d) = (key, d) ∷ []

abbrev pub is_part : List ℕ → Bool
is_part key = bytes_eq key (codes "caps") || bytes_eq key (codes "capacity") || bytes_eq key (codes "steps")

-- the members of a document beside its steps: caps, capacity, and all others as a note
abbrev pub head_pairs : Data → List Pair
head_pairs d = pair_at (codes "caps") (get (codes "caps") d) ++ pair_at (codes "capacity") (get (codes "capacity") d)
    ++ filter (λ pair. not (is_part pair.0)) (pairs_of d)

-- the document with these members and these steps
abbrev pub strict_document : List Pair → List (List Pair) → Data
strict_document head steps =
    object (put (codes "steps") (array (items_of (map object_with steps))) (put_all head no_members))

-- ---- its steps

-- where these names were given, each step has this strict form, and then comes this record
abbrev pub AreStrictBy : List Given → List Data → List (List Pair) → List Record → Type 0
AreStrictBy given [] [] [] = ⊤
AreStrictBy given (d ∷ ds) (ps ∷ pss) (entry ∷ entries) =
    (strict_step (Some given) d ≡ Some ps) × AreStrictBy (with_given given d entry) ds pss entries
AreStrictBy _ _ _ _ = ⊥

-- these records are those of a run of such steps on a new device, which are step objects
pub record IsRunOfStrict (caps : Caps) (capacity : ℕ) (strict : List (List Pair)) (records : List Record) : Type 0 where
  pub actions : List Action
  pub asked : map action_of (map object_with strict) ≡ map Some actions
  pub of_actions : AreOf [] actions records
  pub run : is_run caps capacity (steps_of_records records) ≡ true

-- the strict form of each step, by the names that its run gives
pub record AreExpanded (caps : Caps) (capacity : ℕ) (steps : List Data) (strict : List (List Pair)) : Type 0 where
  pub records : List Record
  pub by : AreStrictBy [] steps strict records
  pub run : IsRunOfStrict caps capacity strict records

-- step i has no strict form after a run of all before it
pub record IsStuckAt (caps : Caps) (capacity : ℕ) (steps : List Data) (i : ℕ) : Type 0 where
  pub strict : List (List Pair)
  pub records : List Record
  pub by : AreStrictBy [] (take i steps) strict records
  pub run : IsRunOfStrict caps capacity strict records
  pub here : option_map (strict_step (Some (given_onto [] (take i steps) records))) (slice_get steps i) ≡ Some None

-- where no device can be made, each step has a strict form but for its names
abbrev pub AreLikely : List Data → Type 0
AreLikely steps = (strict : List (List Pair)) × (map (strict_step None) steps ≡ map Some strict)

-- and step i has none, and all before it have one
pub record IsUnlikelyAt (steps : List Data) (i : ℕ) : Type 0 where
  pub before : AreLikely (take i steps)
  pub here : option_map (strict_step None) (slice_get steps i) ≡ Some None

-- ---- the whole

-- the text of a document with these strict steps: the bytes themselves, where no step of theirs is friendly (profile)
abbrev pub IsLaidOut : (has_friendly : Bool) → List ℕ → Data → List (List Pair) → List ℕ → Type 0
IsLaidOut false bytes document strict text = text ≡ bytes
IsLaidOut true bytes document strict text = IsDocumentText (head_pairs document) strict text

-- the value that is read of it
abbrev pub read_of : (has_friendly : Bool) → Data → List (List Pair) → Data
read_of false document strict = document
read_of true document strict = strict_document (head_pairs document) strict

-- the text is the strict form of the document in these bytes: each of its steps is the strict one that the step there
-- means, so it is read, and it is a document without a fault
pub record IsStrictForm (bytes text : List ℕ) : Type 0 where
  pub document : Data
  pub caps : Caps
  pub capacity : ℕ
  pub items : Items
  pub strict : List (List Pair)
  pub json : IsJson bytes document
  pub head : head_of document ≡ Some (caps, capacity, items)
  pub steps : AreExpanded caps capacity (list_of_items items) strict
  pub opening : IsOpenable caps capacity
  pub laid_out : IsLaidOut (list_any is_friendly (list_of_items items)) bytes document strict text
  pub reads : IsJson text (read_of (list_any is_friendly (list_of_items items)) document strict)
  pub actions : List Action
  pub faultless : IsDocument text caps capacity actions

-- a document of this head and these steps has this fault: that of a step comes before that of the device
abbrev pub IsFaultOfSteps : Caps → ℕ → List Data → ScenarioFault → Type 0
IsFaultOfSteps caps capacity steps (BadStep i) =
    (IsOpenable caps capacity × IsStuckAt caps capacity steps i)
    ⊎ (((fault : ScenarioFault) × IsOpeningFault caps capacity fault) × IsUnlikelyAt steps i)
IsFaultOfSteps caps capacity steps fault = AreLikely steps × IsOpeningFault caps capacity fault

-- the document in these bytes has this fault, and none before it
pub record HasStepFault (bytes : List ℕ) (fault : ScenarioFault) : Type 0 where
  pub document : Data
  pub caps : Caps
  pub capacity : ℕ
  pub items : Items
  pub json : IsJson bytes document
  pub head : head_of document ≡ Some (caps, capacity, items)
  pub bad : IsFaultOfSteps caps capacity (list_of_items items) fault

-- the document in these bytes has no strict form for this fault, the first that it has (profile)
abbrev pub HasNoStrictForm : List ℕ → ScenarioFault → Type 0
HasNoStrictForm bytes NotJson = IsNoJson bytes
HasNoStrictForm bytes BadDocument = HasNoHead bytes
HasNoStrictForm bytes fault = HasStepFault bytes fault

-- what is told of a document: its strict form, which is no longer than a document may be, or no text and a fault
-- (profile)
abbrev pub IsExpansion : List ℕ → Option ScenarioFault → List ℕ → Type 0
IsExpansion bytes None text = IsStrictForm bytes text × (length text ≤ 2 ^ 20)
IsExpansion bytes (Some TooLong) text =
    (text ≡ []) × ((strict : List ℕ) × IsStrictForm bytes strict × (2 ^ 20 < length strict))
IsExpansion bytes (Some fault) text = (text ≡ []) × HasStepFault bytes fault
