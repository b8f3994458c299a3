-- What is wrong with one object, in words: with one that is to be a step, and at the keys of another.
use Rattle.std.specs.Prelude.{◌≡◌, ℕ, false, List, [], ◌∷◌, ◌++◌, map, flat_map, codes}
use Rattle.serde_json.specs.Data.{Data}
use Rattle.dsa_scenario.specs.Fields.{Row}
use Rattle.dsa_check.specs.declared.finding.Reason.{Reason}
use Rattle.dsa_check.specs.{Lines.{reason_text}, Reasons.{AreReasonsOf, AreStepReasons}}
use Rattle.dsa_check.specs.Warnings.{odd_at, answer_row, flag_row}

-- what is wrong with the object, if it is to be a step, and after that with what it says was seen (profile)
abbrev pub AreStepTexts : Data → List (List ℕ) → Type 0
AreStepTexts step texts =
    (reasons : List Reason) × AreStepReasons step reasons
    × (texts ≡ map reason_text reasons ++ odd_at step answer_row ++ odd_at step flag_row)

-- what is wrong at these keys of the object
abbrev pub AreKeyTexts : Data → List Row → List (List ℕ) → Type 0
AreKeyTexts d rows texts =
    (reasons : List Reason) × AreReasonsOf d rows false reasons × (texts ≡ map reason_text reasons)

-- these texts in one line (profile)
abbrev pub joined_text : List (List ℕ) → List ℕ
joined_text [] = []
joined_text (text ∷ more) = text ++ flat_map (λ next. codes "; " ++ next) more
