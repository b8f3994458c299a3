use Rattle.dsa_questions.proofs.lines.add_questions.Given as goal
use Rattle.std.proofs.Common.{◌≡◌, ◌++◌, drop, map, string_bytes}
use Rattle.dsa_questions.specs.{Lines.{question_lines}, Told.{as_answer}}

-- it is left to add the others
abbrev pub invariant-loop-answer : goal.invariant-loop-answer
invariant-loop-answer l =
    string_bytes l.text ++ question_lines (map as_answer (drop l.answer-index l.answers))
    ≡ string_bytes l.initial.text ++ question_lines (map as_answer l.answers)
