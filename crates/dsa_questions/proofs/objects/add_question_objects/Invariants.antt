use Rattle.dsa_questions.proofs.objects.add_question_objects.Given as goal
use Rattle.std.proofs.Common.{◌≡◌, ◌++◌, drop, map, string_bytes}
use Rattle.dsa_questions.specs.{Objects.{question_objects}, Told.{as_answer}}

-- it is left to add the others
abbrev pub invariant-loop-answer : goal.invariant-loop-answer
invariant-loop-answer l =
    string_bytes l.text ++ question_objects (map as_answer (drop l.answer-index l.answers))
    ≡ string_bytes l.initial.text ++ question_objects (map as_answer l.answers)
