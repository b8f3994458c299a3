use Rattle.dsa_questions.proofs.answers.answer_all.Goals as goal
use Rattle.dsa_questions.proofs.Meeting.{answered-more}

pub loop-question-preserved : goal.loop-question-preserved
loop-question-preserved c = λ keeps.
    answered-more c.args.plan.now.caps c.args.plan.now.script.now c.args.plan.now.setup.now
    c.args.searched.now.explored c.args.questions.now c.loop-question.question-index c.question-item.result
    c.loop-question.answers.items c.push.new.self.items c.answer_with.result c.loop-question-test.true
    c.question-item.is c.in_ok-push.ensures.items (c.loop-question.invariant keeps)
    (c.in_ok-met.met, (c.in_ok-met.ensures keeps, c.answer_with.ensures))
