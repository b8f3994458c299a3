use Rattle.dsa_questions.proofs.calling.question_called.Goals as goal
use Rattle.std.proofs.Common.{arith}
use Rattle.dsa_questions.proofs.FirstAsked.{first-asked, none-asked, none-more}

pub loop-question-preserved : goal.loop-question-preserved
loop-question-preserved c =
    none-more c.args.questions.now c.args.name.now c.loop-question.question-index c.question-item.result
    c.loop-question-test.true c.question-item.is c.loop-question.invariant (c.in_ok-has_name.ensures.other c.if-branch.false)

pub returns-clause-none : goal.returns-clause-none
returns-clause-none c =
    none-asked c.args.questions.now c.args.name.now c.loop-question.question-index
    (omega (arith, c.loop-question-test.false)) c.loop-question.invariant

pub returns-then-branch-clause-found : goal.returns-then-branch-clause-found
returns-then-branch-clause-found c =
    first-asked c.args.questions.now c.args.name.now c.loop-question.question-index c.question-item.result
    c.loop-question-test.true c.question-item.is c.loop-question.invariant (c.in_ok-has_name.ensures.same c.if-branch.true)
