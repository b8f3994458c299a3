-- What a search found and what it says of questions, as JSON objects, one in each line. A name has no character that
-- JSON would escape (Words.is_name).
use Rattle.std.specs.Prelude.{ℕ, List, [], ◌++◌, codes, decimal, flat_map}
use Rattle.dsa_explore.specs.declared.found.Explored.{Explored}
use Rattle.dsa_tables.specs.Objects.{body_objects, search_object}
use Rattle.dsa_questions.specs.declared.question.Kind.{Kind}
use Rattle.dsa_questions.specs.declared.verdicts.Outlook.{Outlook, TheVariants.{With}}
use Rattle.dsa_questions.specs.{Lines.{verdict_words}, Reading.{key_of}, Verdicts.{Answer}}

-- the fewest steps, where it comes
abbrev pub steps_member : Outlook → List ℕ
steps_member (With steps) = codes ",\"steps\":" ++ decimal steps
steps_member outlook = []

-- whose verdict it is: the name of a question and its kind
abbrev pub question_members : Kind → List ℕ → List ℕ
question_members kind name =
    codes "{\"question\":\"" ++ name ++ codes "\",\"kind\":\"" ++ key_of kind ++ codes "\",\"verdict\":\""

-- its verdict, to the end of the line
abbrev pub verdict_members : Kind → Outlook → List ℕ
verdict_members kind outlook = verdict_words kind outlook ++ codes "\"" ++ steps_member outlook ++ codes "}\n"

-- a question
unfoldable pub question_object : Answer → List ℕ
question_object answer =
    question_members answer.kind answer.name ++ verdict_members answer.kind answer.outlook

-- all questions (profile)
abbrev pub question_objects : List Answer → List ℕ
question_objects answers = flat_map question_object answers

-- what a search found, with these names of labels and of acts, then these questions, and then how far it came (profile)
abbrev pub objects_with_answers : List (List ℕ) → List (List ℕ) → List Answer → Explored → List ℕ
objects_with_answers labels acts answers explored =
    body_objects labels acts explored ++ question_objects answers
    ++ search_object explored.states explored.tried explored.depth explored.is_complete
