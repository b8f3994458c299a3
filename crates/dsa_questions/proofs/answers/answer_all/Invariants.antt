use Rattle.std.proofs.Common.{map, take}
use Rattle.dsa_explore.specs.Kept.{KeepsWays}
use Rattle.dsa_questions.specs.{Answers.{AreAnswers}, Reading.{question_asked}, Told.{as_answer}}
use Rattle.dsa_questions.proofs.answers.answer_all.Given as goal

-- those before are answered
abbrev pub invariant-loop-question : goal.invariant-loop-question
invariant-loop-question l = KeepsWays l.plan.caps l.plan.script.now l.plan.setup.now l.searched
    → AreAnswers l.plan.caps l.plan.script.now l.plan.setup.now l.searched.explored
    (map question_asked (take l.question-index l.questions)) (map as_answer l.answers.items)
