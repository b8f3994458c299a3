-- The table of a search with the lines of questions.
use Rattle.std.specs.Prelude.{ℕ, List, [], ◌++◌, codes, decimal, flat_map}
use Rattle.dsa_explore.specs.declared.found.Explored.{Explored}
use Rattle.dsa_tables.specs.Table.{body_text, search_line}
use Rattle.dsa_questions.specs.declared.question.Kind.{Kind, TheVariants.{Never, Sometimes, Always}}
use Rattle.dsa_questions.specs.declared.verdicts.Outlook.{Outlook, TheVariants.{With, InNoOrder, NotSoFar}}
use Rattle.dsa_questions.specs.{Reading.{key_of}, Verdicts.{Answer}}

-- what is said of a question
abbrev pub verdict_words : Kind → Outlook → List ℕ
verdict_words Never (With steps) = codes "broken"
verdict_words Never InNoOrder = codes "kept"
verdict_words Never NotSoFar = codes "kept so far"
verdict_words Always (With steps) = codes "broken"
verdict_words Always InNoOrder = codes "kept"
verdict_words Always NotSoFar = codes "kept so far"
verdict_words Sometimes (With steps) = codes "kept"
verdict_words Sometimes InNoOrder = codes "broken"
verdict_words Sometimes NotSoFar = codes "not seen so far"

-- the fewest steps, in brackets, where it comes
abbrev pub steps_words : Outlook → List ℕ
steps_words (With steps) = codes " [" ++ decimal steps ++ codes "]"
steps_words outlook = []

-- the line of a question
unfoldable pub question_line : Answer → List ℕ
question_line answer = key_of answer.kind ++ codes " " ++ answer.name ++ codes ": "
    ++ verdict_words answer.kind answer.outlook ++ steps_words answer.outlook ++ codes "\n"

-- the lines of all questions (profile)
abbrev pub question_lines : List Answer → List ℕ
question_lines answers = flat_map question_line answers

-- the table of what a search found, with these names of labels and of acts, and the lines of these questions before its
-- last line (profile)
abbrev pub text_with_answers : List (List ℕ) → List (List ℕ) → List Answer → Explored → List ℕ
text_with_answers labels acts answers explored =
    body_text labels acts explored ++ question_lines answers
    ++ search_line explored.states explored.tried explored.depth explored.is_complete
