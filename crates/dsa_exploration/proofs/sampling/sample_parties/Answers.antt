use Rattle.dsa_exploration.proofs.sampling.sample_parties.Goals as goal
use Rattle.std.proofs.Common.{◌≡◌, ◌∙◌, ap, map, subst}
use Rattle.std.specs.Prelude.{IfNone}
use Rattle.dsa_explore.specs.Walked.{CannotBegin}
use Rattle.dsa_questions.specs.{Reading.{question_asked}, Samples.{answers_of_walks}, Told.{as_answer}}
use Rattle.dsa_exploration.proofs.WalkTexts.{sampled_after, told_of_setup, told_of_walks}

pub returns-in_default : goal.returns-in_default
returns-in_default c = λ bytes plan asked.
    let caps = c.args.caps in
    let none = subst (λ o. IfNone o (CannotBegin caps c.as_slice.result.now)) c.in_default.is c.in_ok-sampled.ensures.none in
    told_of_setup c.args.sampling.form c.args.sampling.walks bytes _ plan asked _ _
    (subst (CannotBegin caps) (c.as_slice.ensures.value ∙ c.in_ok-setup.ensures) none) c.fault_alone.ensures.fault
    c.fault_alone.ensures.text

pub returns : goal.returns
returns c = λ bytes plan asked.
    let same : map as_answer c.as_slice-2.result.now
    ≡ answers_of_walks c.in-Some.sampled (map question_asked c.args.questions.now) =
    ap (map as_answer) c.as_slice-2.ensures.value ∙ c.in_ok-answers.ensures in
    told_of_walks c.args.sampling.form c.args.sampling.walks bytes _ plan asked c.in-Some.sampled
    (map as_answer c.as_slice-2.result.now) same _ _
    (sampled_after c.args.caps c.args.parties.now.script _ c.as_slice.result.now c.args.sampling.walks _
    c.in-Some.sampled c.in-Some.is (c.as_slice.ensures.value ∙ c.in_ok-setup.ensures)
    c.in_ok-sampled.ensures.sampled) c.in_ok-rendering.ensures.fault c.in_ok-rendering.ensures.text
