use Rattle.dsa_questions.proofs.calling.question_called.Given as goal
use Rattle.std.proofs.Common.{map, take}
use Rattle.dsa_questions.specs.{Reading.{question_asked}, Shown.{HasNoneAsked}}

-- none of those before is called so
abbrev pub invariant-loop-question : goal.invariant-loop-question
invariant-loop-question l = HasNoneAsked (map question_asked (take l.question-index l.questions)) l.name
