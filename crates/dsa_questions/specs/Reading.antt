-- The questions of a document.
use Rattle.std.specs.Prelude.{◌==◌, ℕ, suc, ◌+◌, Bool, cond, List, [], ◌∷◌, ◌++◌, length, drop, map, position, codes}
use Rattle.std.specs.Prelude.{bytes_eq, decimal, string_bytes, is_some}
use Rattle.std.specs.Prelude.{Option, Some, None, option_map, ok_or, Result, Ok}
use Rattle.serde_json.specs.{Data.{Data}, Find.{get, as_str}}
use Rattle.dsa_parties.specs.declared.watches.Watch.{Watch}
use Rattle.dsa_formulas.specs.declared.formula.Term.{Term, TheVariants.{Not}}
use Rattle.dsa_scenario.specs.declared.faults.ScenarioFault.{ScenarioFault, TheVariants.{BadQuestion}}
use Rattle.dsa_scenario.specs.Fields.{◌>>=◌}
use Rattle.dsa_plans.specs.{Said.{items_in, read_or}, Plans.{ok_and_then}}
use Rattle.dsa_questions.specs.declared.question.{Condition.{Condition}, Question.{Question}, Questions.{Questions}}
use Rattle.dsa_questions.specs.declared.question.Kind.{Kind, TheVariants.{Never, Sometimes, Always}}
use Rattle.dsa_questions.specs.declared.question.Sought.{Sought, TheVariants.{Rows, States}}
use Rattle.dsa_questions.specs.{Conditions.{conditions_said, has_keys}, Words.{is_name}}
use Rattle.dsa_questions.specs.Stating.{Nameable, FormulaSoFar, formula_onto}

-- what a question asks for: rows of the table, or states
pub data Wanted : Type 0 where
  rows : List Condition → Wanted
  states : List Term → Wanted

-- a question as it is read
pub record Asked : Type 0 where
  pub kind : Kind
  pub name : List ℕ
  pub wanted : Wanted

-- all questions, and what their formulas watch for
pub record Inquiry : Type 0 where
  pub asked : List Asked
  pub watches : List Watch

-- those of values of the program
abbrev pub wanted_said : Sought → Wanted
wanted_said (Rows conditions) = rows conditions.items
wanted_said (States terms) = states terms.items

abbrev pub question_asked : Question → Asked
question_asked question = record {
  kind = question.kind;
  name = string_bytes question.name;
  wanted = wanted_said question.sought;
}

abbrev pub inquiry_of : Questions → Inquiry
inquiry_of questions = record {
  asked = map question_asked questions.items.items;
  watches = questions.watches.items;
}

-- its name, or else its number
abbrev pub name_by : ℕ → Option Data → Option (List ℕ)
name_by number None = Some (decimal number)
name_by number (Some d) = as_str d >>= λ text. cond (is_name text) (Some text) None

-- a question has `that`, it may have a name, and it has no other key
abbrev pub keys_wanted : Data → ℕ
keys_wanted d = cond (is_some (get (codes "name") d)) 2 1

-- the conditions, if rows can answer the question; an `always` asks for states
abbrev pub rows_wanted : Kind → Nameable → Data → Option (List Condition)
rows_wanted Always names that = None
rows_wanted kind names that = conditions_said names.labels names.acts that

-- the terms of what is asked for: an `always` asks for what is not as it says
abbrev pub terms_for : Kind → List Term → List Term
terms_for Always terms = terms ++ Not ∷ []
terms_for kind terms = terms

-- one question more
abbrev pub with_question : Inquiry → Kind → List ℕ → Wanted → List Watch → Inquiry
with_question done kind name wanted watches = record {
  asked = done.asked ++ record { kind = kind; name = name; wanted = wanted } ∷ [];
  watches = watches;
}

-- how deep a formula may be nested: as deep as a document
unfoldable pub most_nested : ℕ
most_nested = 128

-- what is asked of rows, or else of states
abbrev pub wanted_onto : Kind → Nameable → Inquiry → List ℕ → Data → Option (List Condition) → Option Inquiry
wanted_onto kind names done name that (Some conditions) =
    Some (with_question done kind name (rows conditions) done.watches)
wanted_onto kind names done name that None =
    option_map (λ (w : FormulaSoFar). with_question done kind name (states (terms_for kind w.terms)) w.watches)
    (formula_onto most_nested names (record { terms = []; watches = done.watches }) that)

-- the questions so far, and one of this kind
abbrev pub question_onto : Kind → Nameable → Inquiry → Data → Option Inquiry
question_onto kind names done d = cond (has_keys (keys_wanted d) d)
    (do
      name ← name_by (length done.asked) (get (codes "name") d)
      that ← get (codes "that") d
      wanted_onto kind names done name that (rows_wanted kind names that))
    None

-- these questions, and behind them those of the list; the first that cannot be read is bad
abbrev pub questions_onto : Kind → Nameable → Inquiry → List Data → Result Inquiry ScenarioFault
questions_onto kind names done [] = Ok done
questions_onto kind names done (d ∷ ds) = ok_and_then (λ more. questions_onto kind names more ds)
    (ok_or (question_onto kind names done d) (BadQuestion (length done.asked)))

-- the key of questions
abbrev pub key_of : Kind → List ℕ
key_of Never = codes "never"
key_of Sometimes = codes "sometimes"
key_of Always = codes "always"

-- these questions, and behind them those at the key; what is no array is a bad question
abbrev pub list_onto : Kind → Nameable → Data → Inquiry → Result Inquiry ScenarioFault
list_onto kind names d done = ok_and_then (questions_onto kind names done)
    (ok_or (read_or [] items_in (get (key_of kind) d)) (BadQuestion (length done.asked)))

-- the questions of a document, where this may be named: those of `never` come first, those of `always` last (profile)
abbrev pub questions_said : Nameable → Data → Result Inquiry ScenarioFault
questions_said names d = ok_and_then (list_onto Always names d)
    (ok_and_then (list_onto Sometimes names d) (list_onto Never names d (record { asked = []; watches = [] })))
