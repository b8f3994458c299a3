-- Steps that show what answers a question, and which question is called so.
use Rattle.std.specs.Prelude.{◌≡◌, ◌&&◌, ◌||◌, ℕ, nat_eq, not, Bool, true, List, [], ◌∷◌, ◌++◌, codes, Some, None}
use Rattle.std.specs.List.{list_any, starts_with}
use Rattle.dsa_base.specs.Lists.{In}
use Rattle.dsa_regs.specs.declared.Caps.{Caps}
use Rattle.dsa_book.specs.declared.event.{Event.{Event}, Step.{Step}}
use Rattle.dsa_keys.specs.Parties.{World}
use Rattle.dsa_parties.specs.{declared.script.Script.{Script}, Standing.{Standing}}
use Rattle.dsa_formulas.specs.{declared.formula.Term.{Term}, Formulas.{holds_in_world}}
use Rattle.dsa_explore.specs.declared.found.{Explored.{Explored}, Finding.{Finding}, Found.{Found}}
use Rattle.dsa_explore.specs.Schedules.{IsSchedule, IsScheduleTo}
use Rattle.dsa_questions.specs.declared.question.Condition.{Condition}
use Rattle.dsa_questions.specs.declared.question.Kind.TheVariants.{Never, Sometimes, Always}
use Rattle.dsa_questions.specs.declared.verdicts.Outlook.TheVariants.{With}
use Rattle.dsa_questions.specs.{Asked.{is_row_asked}, Answers.{IsAnswer}}
use Rattle.dsa_questions.specs.Reading.{Asked, Wanted, key_of, rows, states}
use Rattle.dsa_questions.specs.Verdicts.{Answer, comes_by, fewest_from}

-- ---- steps that show an answer

-- this row is asked for, and none that is has fewer steps
pub record IsSoonest (conditions : List Condition) (rows : List Found) (row : Found) : Type 0 where
  pub within : In row rows
  pub asked : is_row_asked conditions row.finding ≡ true
  pub fewest : fewest_from conditions None rows ≡ Some row.steps

-- the last of these steps, which are a schedule of so many moves, tells a finding that is asked for
pub record IsRowShown (caps : Caps) (script : Script) (setup : List Event) (conditions : List Condition) (count : ℕ)
    (steps : List Step) : Type 0 where
  pub finding : Finding
  pub asked : is_row_asked conditions finding ≡ true
  pub schedule : IsSchedule caps script setup count finding steps

-- these steps, which are a schedule of so many moves, lead to a state in which the formula holds
pub record IsStateShown (caps : Caps) (script : Script) (setup : List Event) (terms : List Term) (count : ℕ)
    (steps : List Step) : Type 0 where
  pub world : World Standing
  pub holds : holds_in_world script terms world ≡ true
  pub schedule : IsScheduleTo caps script setup count world steps

-- what is wanted comes by these steps, of which the parties make so many
abbrev pub IsWantedShown : Caps → Script → List Event → Wanted → ℕ → List Step → Type 0
IsWantedShown caps script setup (rows conditions) count steps = IsRowShown caps script setup conditions count steps
IsWantedShown caps script setup (states terms) count steps = IsStateShown caps script setup terms count steps

-- what the question asks for comes, and these steps show it: the parties make as many as is said of the question
pub record IsAnswerShown (caps : Caps) (script : Script) (setup : List Event) (explored : Explored) (question : Asked)
    (steps : List Step) : Type 0 where
  pub answer : Answer
  pub answered : IsAnswer caps script setup explored question answer
  pub count : ℕ
  pub comes : answer.outlook ≡ With count
  pub shown : IsWantedShown caps script setup question.wanted count steps

-- what the question asks for did not come: in no order if all was tried, and else so far
pub record HasNoneToShow (caps : Caps) (script : Script) (setup : List Event) (explored : Explored) (question : Asked)
    : Type 0 where
  pub answer : Answer
  pub answered : IsAnswer caps script setup explored question answer
  pub none : answer.outlook ≡ comes_by explored.is_complete None

-- ---- names

-- how a question is called: by what stands before the colon in its line
unfoldable pub question_name : Asked → List ℕ
question_name question = key_of question.kind ++ codes " " ++ question.name

-- this question is called so, and none before it
pub record IsFirstAsked (questions : List Asked) (name : List ℕ) (question : Asked) : Type 0 where
  pub before : List Asked
  pub after : List Asked
  pub parts : questions ≡ before ++ question ∷ after
  pub named : question_name question ≡ name
  pub others : (other : Asked) → In other before → question_name other ≡ name → ⊥

-- no question is called so
abbrev pub HasNoneAsked : List Asked → List ℕ → Type 0
HasNoneAsked questions name = (question : Asked) → In question questions → question_name question ≡ name → ⊥

-- the text begins as the line of a question does, with the word of a kind
abbrev pub begins_with_kind : List ℕ → Bool
begins_with_kind text =
    starts_with nat_eq text (key_of Never ++ codes " ") || starts_with nat_eq text (key_of Sometimes ++ codes " ")
    || starts_with nat_eq text (key_of Always ++ codes " ")

-- the text begins as the line of an entry or an act does, with one of these names
abbrev pub begins_with_name : List (List ℕ) → List ℕ → Bool
begins_with_name names text = list_any (λ name. starts_with nat_eq text (name ++ codes ": ")) names

-- a question is called so, and no row of a table with these names of entries and of acts
abbrev pub calls_question : (labels acts : List (List ℕ)) → List ℕ → Bool
calls_question labels acts text =
    begins_with_kind text && not (begins_with_name labels text) && not (begins_with_name acts text)
