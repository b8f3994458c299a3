-- The forms of the lines that are printed.
use Rattle.std.specs.Prelude.{◌≡◌, ℕ, suc, true, List, [], ◌∷◌, ◌++◌, flat_map, replicate, codes, Option, Some, None}
use Rattle.std.specs.List.{list_all}
use Rattle.dsa_scenario.specs.declared.faults.ScenarioFault.{ScenarioFault, TheVariants.{BadStep, Differs}}
use Rattle.dsa_conform.specs.Quoted.{is_printable}

-- a line of printable ASCII that begins with this word, and a line feed at its end
pub record IsLineWith (word line : List ℕ) : Type 0 where
  pub rest : List ℕ
  pub is : line ≡ word ++ rest ++ codes "\n"
  pub printable : list_all is_printable (word ++ rest) ≡ true

-- a line with each of these words, in turn
abbrev pub AreLinesWith : List (List ℕ) → List ℕ → Type 0
AreLinesWith [] text = text ≡ []
AreLinesWith (word ∷ words) text =
    (line : List ℕ) × (more : List ℕ) × IsLineWith word line × AreLinesWith words more × (text ≡ line ++ more)

-- the step that differs, what was seen of it, a fact against that, and so many answers that were allowed (profile)
abbrev pub words_of_difference : ℕ → List (List ℕ)
words_of_difference allowed =
    codes "step " ∷ codes "seen: " ∷ codes "against: " ∷ replicate allowed (codes "allowed: ")

-- the lines of a document: that it conforms, where it differs, or none before the fault of a bad step (profile)
abbrev pub IsReport : Option ScenarioFault → List ℕ → Type 0
IsReport None text = AreLinesWith (codes "conforms: " ∷ []) text
IsReport (Some (Differs i)) text = (allowed : ℕ) × AreLinesWith (words_of_difference (suc allowed)) text
IsReport (Some (BadStep i)) text = text ≡ []
IsReport _ text = ⊥

-- the lines of each step that differs, which are one at least, and of how many do (profile)
abbrev pub AreLinesOfAll : List ℕ → Type 0
AreLinesOfAll text = (first : ℕ) × (more : List ℕ)
    × AreLinesWith (flat_map (λ allowed. words_of_difference (suc allowed)) (first ∷ more) ++ codes "differs: " ∷ [])
    text

-- the same of a document with every step that differs (profile)
abbrev pub IsFullReport : Option ScenarioFault → List ℕ → Type 0
IsFullReport (Some (Differs i)) text = AreLinesOfAll text
IsFullReport fault text = IsReport fault text
