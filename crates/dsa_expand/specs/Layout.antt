-- The text of a strict document: a line for each step.
use Rattle.std.specs.Prelude.{◌≡◌, ◌≤◌, ℕ, List, [], ◌∷◌, ◌++◌, Some, codes}
use Rattle.json.specs.{Lex.{tokens}, Print.{print, quoted}}
use Rattle.serde_json.specs.{Data.{Data, depth}, Read.{read, max_depth}, Written.{IsInOrder}}
use Rattle.dsa_expand.specs.Steps.{Pair}

-- the text of a value: with no space, with each item and member once and in order, and integers in
-- decimal; it is read as the value
pub record IsValueText (d : Data) (text : List ℕ) : Type 0 where
  pub order : IsInOrder text d
  pub compact : text ≡ print (tokens text)
  pub reads_back : depth d ≤ max_depth → read text ≡ Some d

-- a key with its colon
abbrev pub key_with_colon : List ℕ → List ℕ
key_with_colon key = quoted key ++ codes ": "

-- the members in this order; before the first comes one text, before each other one the next
abbrev pub AreMembersTexts : (first next : List ℕ) → List Pair → List ℕ → Type 0
AreMembersTexts first next [] text = text ≡ []
AreMembersTexts first next (p ∷ ps) text =
    (value : List ℕ) × (rest : List ℕ) × IsValueText p.1 value × AreMembersTexts next next ps rest
    × (text ≡ first ++ (key_with_colon p.0 ++ (value ++ rest)))

-- an object on one line
abbrev pub IsObjectText : List Pair → List ℕ → Type 0
IsObjectText ps text =
    (members : List ℕ) × AreMembersTexts [] (codes ", ") ps members × (text ≡ codes "{" ++ (members ++ codes "}"))

-- such objects, each with a text before it
abbrev pub AreObjectsTexts : (first next : List ℕ) → List (List Pair) → List ℕ → Type 0
AreObjectsTexts first next [] text = text ≡ []
AreObjectsTexts first next (ps ∷ pss) text =
    (object : List ℕ) × (rest : List ℕ) × IsObjectText ps object × AreObjectsTexts next next pss rest
    × (text ≡ first ++ (object ++ rest))

-- the text of a document with these members and these steps: a line for each (profile)
abbrev pub IsDocumentText : List Pair → List (List Pair) → List ℕ → Type 0
IsDocumentText head steps text =
    (members : List ℕ) × (objects : List ℕ) × AreMembersTexts (codes "\n  ") (codes ",\n  ") head members
    × AreObjectsTexts (codes "\n    ") (codes ",\n    ") steps objects
    × (text ≡ codes "{" ++ (members ++ (codes ",\n  \"steps\": [" ++ (objects ++ codes "\n  ]\n}"))))
