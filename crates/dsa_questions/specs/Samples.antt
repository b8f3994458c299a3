-- What random walks found, with what it says of questions.
use Rattle.std.specs.Prelude.{ℕ, List, ◌++◌, map, None}
use Rattle.dsa_explore.specs.declared.sampling.Sampled.{Sampled}
use Rattle.dsa_tables.specs.{Table.{body_text}, Objects.{body_objects}, Samples.{walks_line, walks_object}}
use Rattle.dsa_questions.specs.{Reading.{Asked}, Lines.{question_lines}, Objects.{question_objects}}
use Rattle.dsa_questions.specs.Verdicts.{Answer, answer_with}

-- what random walks say of questions; they store no state, so they leave open what is asked of states (profile)
abbrev pub answers_of_walks : Sampled → List Asked → List Answer
answers_of_walks sampled questions = map (λ question. answer_with sampled.explored question None) questions

-- the lines of a search that found this and of its questions, and how many walks were made (profile)
abbrev pub text_of_walks : List (List ℕ) → List (List ℕ) → List Answer → Sampled → List ℕ
text_of_walks labels acts answers sampled =
    body_text labels acts sampled.explored ++ question_lines answers
    ++ walks_line sampled.walks sampled.explored.tried sampled.explored.depth

-- the same as JSON objects, one in each line (profile)
abbrev pub objects_of_walks : List (List ℕ) → List (List ℕ) → List Answer → Sampled → List ℕ
objects_of_walks labels acts answers sampled =
    body_objects labels acts sampled.explored ++ question_objects answers
    ++ walks_object sampled.walks sampled.explored.tried sampled.explored.depth
