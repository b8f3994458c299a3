-- What is made of a document that stands for a family.
use Rattle.std.specs.Prelude.{◌≡◌, ◌⊎◌, ℕ, ◌%◌, ◌==◌, Bool, false, cond, List, [], ◌∷◌, ◌++◌, filter, codes, decimal}
use Rattle.std.specs.Prelude.{Option, Some, None, unwrap_or}
use Rattle.std.specs.Option.{option_or}
use Rattle.json.specs.Print.{quoted}
use Rattle.serde_json.specs.{Data.{Data}, Find.{get}}
use Rattle.dsa_base.specs.Numbers.{numbers_below}
use Rattle.dsa_scenario.specs.Document.{IsFaultOf, IsJson}
use Rattle.dsa_scenario.specs.declared.faults.ScenarioFault.{ScenarioFault}
use Rattle.dsa_scenario.specs.declared.faults.ScenarioFault.TheVariants.{BadDocument, NoSuchRow}
use Rattle.dsa_family.specs.Values.{IsDataText}
use Rattle.dsa_family.specs.declared.headings.Heading.{Heading, TheVariants.{Line, Object}}
use Rattle.dsa_family.specs.declared.worlds.WorldShard.{WorldShard}
use Rattle.dsa_family.specs.Places.{without_key}
use Rattle.dsa_family.specs.Axes.{Varied, Chosen, axes_said, chosen_in, world_of_family, worlds_of}

-- what is made of a document: its fault and its text
abbrev pub Making : Type 1
Making = List ℕ → Option ScenarioFault → List ℕ → Type 0

-- ---- the first line of a world

-- a path, before the text of its value (profile)
abbrev pub path_in_heading : Heading → List ℕ → List ℕ
path_in_heading Line path = path ++ codes " = "
path_in_heading Object path = quoted path ++ codes ":"

-- each place with the text of its value; before the first comes one text, before each other one the next
abbrev pub AreChosenTexts : Heading → (first next : List ℕ) → List Chosen → List ℕ → Type 0
AreChosenTexts heading first next [] text = text ≡ []
AreChosenTexts heading first next (choice ∷ choices) text =
    (value : List ℕ) × (rest : List ℕ) × IsDataText choice.1 value
    × AreChosenTexts heading next next choices rest
    × (text ≡ first ++ (path_in_heading heading choice.0 ++ (value ++ rest)))

-- the first line of world k, which has these values (profile)
abbrev pub IsHeading : Heading → ℕ → List Chosen → List ℕ → Type 0
IsHeading Line k choices text =
    (values : List ℕ) × AreChosenTexts Line (codes ": ") (codes ", ") choices values
    × (text ≡ codes "world " ++ (decimal k ++ (values ++ codes "\n")))
IsHeading Object k choices text =
    (values : List ℕ) × AreChosenTexts Object [] (codes ",") choices values
    × (text ≡ codes "{\"world\":" ++ (decimal k ++ (codes ",\"at\":{" ++ (values ++ codes "}}\n"))))

-- ---- worlds

-- what is made of the text of a world's document, or no text and the fault of that document
abbrev pub IsMadeOfBytes : Making → List ℕ → Option ScenarioFault → List ℕ → Type 0
IsMadeOfBytes makes written fault text =
    makes written fault text
    ⊎ ((e : ScenarioFault) × IsFaultOf written e × (fault ≡ Some e) × (text ≡ []))

-- what is made of a world's document (profile)
abbrev pub IsMadeOfWorld : Making → Option Data → Option ScenarioFault → List ℕ → Type 0
IsMadeOfWorld makes None fault text = (fault ≡ Some BadDocument) × (text ≡ [])
IsMadeOfWorld makes (Some document) fault text =
    (written : List ℕ) × IsDataText document written × IsMadeOfBytes makes written fault text

-- the world of this number is one of the shard (profile)
abbrev pub is_in_world_shard : WorldShard → ℕ → Bool
is_in_world_shard shard k = cond (shard.count == 0) false (k % shard.count == shard.number)

-- the numbers of the worlds of the shard
abbrev pub world_numbers : WorldShard → List Varied → List ℕ
world_numbers shard axes = filter (is_in_world_shard shard) (numbers_below (worlds_of axes))

-- ---- families

-- of world k its first line, and then what is made of its document (profile)
pub record IsWorldMade (makes : Making) (heading : Heading) (base : Data) (axes : List Varied) (k : ℕ)
    (fault : Option ScenarioFault) (text : List ℕ) : Type 0 where
  pub line : List ℕ
  pub own : List ℕ
  pub heads : IsHeading heading k (chosen_in axes k) line
  pub made : IsMadeOfWorld makes (world_of_family base axes k) fault own
  pub whole : text ≡ line ++ own

-- the worlds of these numbers, one after the other; the fault is the first of theirs (profile)
abbrev pub AreMadeOfWorlds : Making → Heading → Data → List Varied → List ℕ → Option ScenarioFault → List ℕ → Type 0
AreMadeOfWorlds makes heading base axes [] fault text = (fault ≡ None) × (text ≡ [])
AreMadeOfWorlds makes heading base axes (k ∷ ks) fault text =
    (own : List ℕ) × (rest : List ℕ) × (here : Option ScenarioFault) × (later : Option ScenarioFault)
    × IsWorldMade makes heading base axes k here own × AreMadeOfWorlds makes heading base axes ks later rest
    × (fault ≡ option_or here later) × (text ≡ own ++ rest)

-- of a document whose `vary` says this; no text where it has a fault (profile)
abbrev pub IsMadeOfAxes : Making → Heading → WorldShard → Data → Option (List Varied) → Option ScenarioFault → List ℕ
    → Type 0
IsMadeOfAxes makes heading shard base None fault text = (fault ≡ Some BadDocument) × (text ≡ [])
IsMadeOfAxes makes heading shard base (Some axes) fault text =
    AreMadeOfWorlds makes heading base axes (world_numbers shard axes) fault text

-- of a document with this at `vary`: without it, what is made of the document itself (profile)
abbrev pub IsMadeOfVary : Making → Heading → WorldShard → List ℕ → Data → Option Data → Option ScenarioFault → List ℕ
    → Type 0
IsMadeOfVary makes heading shard bytes document None fault text = makes bytes fault text
IsMadeOfVary makes heading shard bytes document (Some vary) fault text =
    let base = without_key (codes "vary") document in
    IsMadeOfAxes makes heading shard base (axes_said vary base) fault text

-- of these bytes (profile)
pub record IsFamilyOf (makes : Making) (heading : Heading) (shard : WorldShard) (bytes : List ℕ)
    (fault : Option ScenarioFault) (text : List ℕ) : Type 0 where
  pub document : Data
  pub json : IsJson bytes document
  pub made : IsMadeOfVary makes heading shard bytes document (get (codes "vary") document) fault text

-- ---- the first world that has a text

-- what is made of the first of the worlds of these numbers that has no fault; where each has one, no text and the first
-- of their faults, or the one that was found before (profile)
abbrev pub IsFirstOfWorlds : Making → Data → List Varied → Option ScenarioFault → List ℕ → Option ScenarioFault
    → List ℕ → Type 0
IsFirstOfWorlds makes base axes found [] fault text = (fault ≡ Some (unwrap_or found NoSuchRow)) × (text ≡ [])
IsFirstOfWorlds makes base axes found (k ∷ ks) fault text =
    ((fault ≡ None) × IsMadeOfWorld makes (world_of_family base axes k) None text)
    ⊎ ((e : ScenarioFault) × (own : List ℕ) × IsMadeOfWorld makes (world_of_family base axes k) (Some e) own
    × IsFirstOfWorlds makes base axes (option_or found (Some e)) ks fault text)

-- of a document whose `vary` says this; no text where it has a fault (profile)
abbrev pub IsFirstOfAxes : Making → WorldShard → Data → Option (List Varied) → Option ScenarioFault → List ℕ → Type 0
IsFirstOfAxes makes shard base None fault text = (fault ≡ Some BadDocument) × (text ≡ [])
IsFirstOfAxes makes shard base (Some axes) fault text =
    IsFirstOfWorlds makes base axes None (world_numbers shard axes) fault text

-- of a document with this at `vary`: without it, what is made of the document itself (profile)
abbrev pub IsFirstOfVary : Making → WorldShard → List ℕ → Data → Option Data → Option ScenarioFault → List ℕ → Type 0
IsFirstOfVary makes shard bytes document None fault text = makes bytes fault text
IsFirstOfVary makes shard bytes document (Some vary) fault text =
    let base = without_key (codes "vary") document in
    IsFirstOfAxes makes shard base (axes_said vary base) fault text

-- of these bytes (profile)
pub record IsFirstOf (makes : Making) (shard : WorldShard) (bytes : List ℕ) (fault : Option ScenarioFault)
    (text : List ℕ) : Type 0 where
  pub document : Data
  pub json : IsJson bytes document
  pub made : IsFirstOfVary makes shard bytes document (get (codes "vary") document) fault text
