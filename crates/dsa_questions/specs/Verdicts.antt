-- What a search says of questions.
use Rattle.std.specs.Prelude.{ℕ, ◌+◌, min, Bool, true, false, cond, List, [], ◌∷◌, Option, Some, None}
use Rattle.dsa_explore.specs.declared.found.{Explored.{Explored}, Found.{Found}}
use Rattle.dsa_questions.specs.declared.question.Condition.{Condition}
use Rattle.dsa_questions.specs.declared.question.Kind.{Kind, TheVariants.{Never, Sometimes, Always}}
use Rattle.dsa_questions.specs.declared.verdicts.Outlook.{Outlook, TheVariants.{With, InNoOrder, NotSoFar}}
use Rattle.dsa_questions.specs.{Asked.{is_row_asked}, Reading.{Asked, Wanted, rows, states}}

-- the fewer of these steps and those so far, where there are some
abbrev pub fewer : Option ℕ → ℕ → ℕ
fewer None steps = steps
fewer (Some least) steps = min least steps

-- the fewest steps of those so far and of the rows that are asked for
abbrev pub fewest_from : List Condition → Option ℕ → List Found → Option ℕ
fewest_from conditions least [] = least
fewest_from conditions least (row ∷ others) = fewest_from conditions
    (cond (is_row_asked conditions row.finding) (Some (fewer least row.steps)) least) others

-- whether what is asked for comes, by the fewest steps with which it was found, and by whether all was tried
abbrev pub comes_by : Bool → Option ℕ → Outlook
comes_by is_complete (Some steps) = With steps
comes_by true None = InNoOrder
comes_by false None = NotSoFar

-- whether one of the conditions comes in some order, by what a search found (profile)
abbrev pub outlook_of : List Condition → Explored → Outlook
outlook_of conditions explored =
    comes_by explored.is_complete (fewest_from conditions None explored.rows.items)

-- what must never come comes, what has to hold always does not, or what has to come in some order comes in none
abbrev pub is_broken_by : Kind → Outlook → Bool
is_broken_by Never (With steps) = true
is_broken_by Always (With steps) = true
is_broken_by Sometimes InNoOrder = true
is_broken_by kind outlook_of = false

-- ---- answers

-- a question with what is said of it
pub record Answer : Type 0 where
  pub kind : Kind
  pub name : List ℕ
  pub outlook : Outlook

-- whether what is wanted comes: by the rows of a search, or else by the fewest steps to a state that is asked for
abbrev pub outlook_by : Explored → Wanted → Option ℕ → Outlook
outlook_by explored (rows conditions) met = outlook_of conditions explored
outlook_by explored (states terms) met = comes_by explored.is_complete met

-- what a search says of a question, with these fewest steps to a state that it asks for
abbrev pub answer_with : Explored → Asked → Option ℕ → Answer
answer_with explored question met =
    record { kind = question.kind; name = question.name; outlook = outlook_by explored question.wanted met }

abbrev pub is_broken : Answer → Bool
is_broken answer = is_broken_by answer.kind answer.outlook

-- the number of the first question that is broken, counted from this number
abbrev pub broken_from : ℕ → List Answer → Option ℕ
broken_from number [] = None
broken_from number (answer ∷ answers) = cond (is_broken answer) (Some number) (broken_from (number + 1) answers)

-- counted from 0 (profile)
abbrev pub first_broken : List Answer → Option ℕ
first_broken answers = broken_from 0 answers
