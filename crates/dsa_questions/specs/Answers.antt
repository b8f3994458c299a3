-- When what is said of questions is so.
use Rattle.std.specs.Prelude.{◌≡◌, ℕ, ◌≤◌, ⊤, true, List, [], ◌∷◌, Option, Some, None, IfSome}
use Rattle.dsa_regs.specs.declared.Caps.{Caps}
use Rattle.dsa_book.specs.declared.event.Event.{Event}
use Rattle.dsa_keys.specs.Parties.{World}
use Rattle.dsa_parties.specs.{declared.script.Script.{Script}, Offers.{parties_of}, Standing.{Standing}}
use Rattle.dsa_formulas.specs.{declared.formula.Term.{Term}, Formulas.{holds_in_world}}
use Rattle.dsa_explore.specs.{declared.found.Explored.{Explored}, Search.{IsReached}, Walked.{IsFirst}}
use Rattle.dsa_questions.specs.{Reading.{Asked, Wanted, rows, states}, Verdicts.{Answer, answer_with}}

-- so many moves lead from the first world to one in which the formula holds
pub record CanHold (script : Script) (first : World Standing) (terms : List Term) (steps : ℕ) : Type 0 where
  pub world : World Standing
  pub reached : IsReached (parties_of script) first steps world
  pub holds : holds_in_world script terms world ≡ true

-- these steps are known, and are no more than those
abbrev pub IsAtMost : Option ℕ → ℕ → Type 0
IsAtMost met steps = (least : ℕ) × ((met ≡ Some least) × (least ≤ steps))

-- these are the fewest steps from the end of the set-up to a state in which the formula holds, as far as it is known
pub record IsFirstMet (caps : Caps) (script : Script) (setup : List Event) (explored : Explored) (terms : List Term)
    (met : Option ℕ) : Type 0 where
  pub first : World Standing
  pub begun : IsFirst caps script setup first
  pub sound : IfSome met (CanHold script first terms)
  pub complete : explored.is_complete ≡ true → (steps : ℕ) → CanHold script first terms steps → IsAtMost met steps

-- they are those of what is wanted; rows need none
abbrev pub IsMetFor : Caps → Script → List Event → Explored → Wanted → Option ℕ → Type 0
IsMetFor caps script setup explored (rows conditions) met = met ≡ None
IsMetFor caps script setup explored (states terms) met = IsFirstMet caps script setup explored terms met

-- this is said of the question
abbrev pub IsAnswer : Caps → Script → List Event → Explored → Asked → Answer → Type 0
IsAnswer caps script setup explored question answer = (met : Option ℕ)
    × (IsMetFor caps script setup explored question.wanted met × (answer ≡ answer_with explored question met))

-- these are said of the questions, one of each, in their order (profile)
abbrev pub AreAnswers : Caps → Script → List Event → Explored → List Asked → List Answer → Type 0
AreAnswers caps script setup explored [] [] = ⊤
AreAnswers caps script setup explored (question ∷ questions) (answer ∷ answers) =
    IsAnswer caps script setup explored question answer × AreAnswers caps script setup explored questions answers
AreAnswers caps script setup explored questions answers = ⊥
