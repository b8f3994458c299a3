-- Questions, findings and searches that the worked rows speak of: two clients with a submission each, and an
-- administrator who drains their queue, polls and resets it.
use Rattle.dsa_book.specs.declared.answer.IssueAnswer.TheVariants as issue
use Rattle.dsa_book.specs.declared.answer.Reply.TheVariants as reply
use Rattle.std.proofs.Common.{arith}
use Rattle.std.specs.Prelude.{ℕ, ⊤, Bool, List, [], ◌∷◌, None, codes, map}
use Rattle.std.specs.declared.alloc.Global.{Global}
use Rattle.serde_json.specs.Data.{Data, string}
use Rattle.dsa_book.specs.declared.fate.Fate.TheVariants as fate
use Rattle.dsa_scenario.specs.Worked.{Fields, object_of}
use Rattle.dsa_parties.specs.Worked.{vector_in}
use Rattle.dsa_plans.specs.Worked.{listing}
use Rattle.dsa_explore.specs.declared.found.{Explored.{Explored}, Found.{Found}}
use Rattle.dsa_tables.specs.Worked.{act_found, end_found, tables_on_literals, wait_found}
use Rattle.dsa_tables.specs.Worked.{three_acts, two_labels}
use Rattle.dsa_questions.specs.declared.question.{Condition.{Condition, TheVariants.{Entry}}, Kind.{Kind}}
use Rattle.dsa_parties.specs.declared.watches.{Became.TheVariants.{Aborted}, Watch.{Watch}}
use Rattle.dsa_formulas.specs.declared.formula.Term.{Term}
use Rattle.dsa_questions.specs.{Lines.{question_line}, Objects.{question_object}}
use Rattle.dsa_questions.specs.{Reading.{Asked, Inquiry, most_nested, rows, states}, Stating.{FormulaSoFar, Nameable}, Verdicts.{Answer, answer_with}}

-- what a row unfolds to compute its lines
unfoldable pub questions_on_literals : ⊤
unfolding tables_on_literals question_line question_object most_nested
questions_on_literals = tt

-- ---- documents

-- an object with these two texts
abbrev pub worked_pair : List ℕ → List ℕ → List ℕ → List ℕ → Data
worked_pair key text other word = object_of ((key, string text) ∷ (other, string word) ∷ [])

-- an entry becomes so, and an act is answered so
abbrev pub entry_is : List ℕ → List ℕ → Data
entry_is label word = worked_pair (codes "entry") label (codes "is") word

abbrev pub command_is : List ℕ → List ℕ → Data
command_is label word = worked_pair (codes "command") label (codes "is") word

-- one of these
abbrev pub any_of : List Data → Data
any_of ds = object_of ((codes "any", listing ds) ∷ [])

-- all of these, and not this one
abbrev pub all_of : List Data → Data
all_of ds = object_of ((codes "all", listing ds) ∷ [])

abbrev pub negated : Data → Data
negated d = object_of ((codes "not", d) ∷ [])

-- a question without a name, and one with a name
abbrev pub question_about : Data → Data
question_about that = object_of ((codes "that", that) ∷ [])

abbrev pub question_named : List ℕ → Data → Data
question_named name that = object_of ((codes "name", string name) ∷ (codes "that", that) ∷ [])

-- a document with these questions
abbrev pub document_asking : List Data → List Data → Fields → Data
document_asking nevers others more =
    object_of ((codes "never", listing nevers) ∷ (codes "sometimes", listing others) ∷ more)

-- ---- what is asked

-- the entry with this label is aborted
abbrev pub aborted_at : ℕ → List Condition
aborted_at label = Entry label Aborted ∷ []

abbrev pub asking : Kind → List ℕ → List Condition → Asked
asking kind name conditions = record { kind = kind; name = name; wanted = rows conditions }

-- a question about states
abbrev pub asking_states : Kind → List ℕ → List Term → Asked
asking_states kind name terms = record { kind = kind; name = name; wanted = states terms }

-- a formula so far, and one of which nothing is read
abbrev pub so_far : List Term → List Watch → FormulaSoFar
so_far terms watches = record { terms = terms; watches = watches }

abbrev pub no_formula : FormulaSoFar
no_formula = so_far [] []

-- these questions, for which nothing is watched
abbrev pub inquired : List Asked → Inquiry
inquired asked = record { asked = asked; watches = [] }

-- what may be named: these labels, two queues, two clients and an administrator
abbrev pub worked_names : Nameable
worked_names =
    record { labels = two_labels; acts = three_acts; queues = 2; clients = 2; administrators = 1 }

-- what a search says of questions about rows
abbrev pub answered_so : Explored → List Asked → List Answer
answered_so explored questions = map (λ (question : Asked). answer_with explored question None) questions

-- ---- searches

-- entry 1 is aborted with four steps, by one command, and with seven by another; the drain waits for entry 0
abbrev pub few_rows : List Found
few_rows =
    act_found 0 (reply.Issue issue.Active) 2 ∷ wait_found 0 0 2 ∷ end_found 1 (fate.Aborted 9) 7
    ∷ end_found 1 (fate.Aborted 10) 4 ∷ end_found 0 (fate.Completed 1) 3 ∷ []

-- a search that found these, and tried all or met a bound
abbrev pub explored_so : Global → Bool → Explored
explored_so memory is_complete = record {
  rows = vector_in memory few_rows (omega arith);
  states = 34;
  tried = 134;
  depth = 8;
  is_complete = is_complete;
  ends = None;
}
