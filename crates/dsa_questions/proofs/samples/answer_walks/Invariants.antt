use Rattle.std.proofs.Common.{◌≡◌, map, take}
use Rattle.dsa_questions.specs.{Reading.{question_asked}, Samples.{answers_of_walks}, Told.{as_answer}}
use Rattle.dsa_questions.proofs.samples.answer_walks.Given as goal

-- those before are answered
abbrev pub invariant-loop-question : goal.invariant-loop-question
invariant-loop-question l =
    map as_answer l.answers.items ≡ answers_of_walks l.sampled (map question_asked (take l.question-index l.questions))
