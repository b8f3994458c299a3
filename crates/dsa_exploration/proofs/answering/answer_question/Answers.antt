use Rattle.dsa_exploration.proofs.answering.answer_question.Goals as goal
use Rattle.std.proofs.Common.{◌∙◌, ap, inl, inr, map, Some, arith}
use Rattle.dsa_questions.specs.Reading.{Inquiry, question_asked}
use Rattle.dsa_exploration.proofs.Answered.{none-answered, question-answered}

pub returns-in_default : goal.returns-in_default
returns-in_default c = λ bytes labels acts watches search called ways.
    none-answered c.args.showing.now.bounds c.args.showing.now.row.now bytes called
    (record { asked = map question_asked c.args.questions.now; watches = watches }) c.args.searched.now.explored search
    _ _ (inl (rw c.in_default.is at c.in_ok-question.ensures.none))
    (c.fault_alone.ensures.fault ∙ ap Some c.fault_without_row-fault.ensures) c.fault_alone.ensures.text

pub returns-in_default-2 : goal.returns-in_default-2
returns-in_default-2 c = λ bytes labels acts watches search called ways.
    none-answered c.args.showing.now.bounds c.args.showing.now.row.now bytes called
    (record { asked = map question_asked c.args.questions.now; watches = watches }) c.args.searched.now.explored search
    _ _ (inr (record {
      question = question_asked c.in-Some.question.now;
      named = rw c.in-Some.is at c.in_ok-question.ensures.found;
      none = (rw c.in_default-2.is at c.in_ok-steps.ensures.none) ways;
    }))
    (c.fault_alone-in_default-2.ensures.fault ∙ ap Some c.fault_without_row-fault.ensures)
    c.fault_alone-in_default-2.ensures.text

pub returns : goal.returns
returns c = λ bytes labels acts watches search called ways.
    question-answered c.args.showing.now.bounds c.args.showing.now.row.now bytes called
    (record { asked = map question_asked c.args.questions.now; watches = watches }) c.args.searched.now.explored search
    (question_asked c.in-Some.question.now) c.in-Some-2.steps.items _ _
    (rw c.in-Some.is at c.in_ok-question.ensures.found)
    ((rw c.in-Some-2.is at c.in_ok-steps.ensures.shown) ways)
    (omega (arith, c.len.ensures, c.in-Some-2.steps.ok.0))
    (rw c.new-text.ensures.bytes at (rw c.as_slice.ensures.value at c.in_ok-add_document.ensures))
