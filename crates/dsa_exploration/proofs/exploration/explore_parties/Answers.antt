use Rattle.dsa_exploration.proofs.exploration.explore_parties.Goals as goal
use Rattle.std.proofs.Common.{◌∙◌, List, subst, sym, map}
use Rattle.std.specs.Prelude.{IfNone, IfSome}
use Rattle.dsa_explore.specs.{Kept.{KeepsWays}, Walked.{CannotBegin}}
use Rattle.dsa_questions.specs.declared.verdicts.Answered.{Answered}
use Rattle.dsa_questions.specs.{Answers.{AreAnswers}, Reading.{question_asked}, Told.{as_answer}}
use Rattle.dsa_exploration.specs.Plan.{setup_events}
use Rattle.dsa_exploration.proofs.Plans.{found_within, told_of_search, told_of_setup}

pub returns-in_default : goal.returns-in_default
returns-in_default c = λ bytes plan asked.
    let caps = c.args.caps in
    let none = subst (λ o. IfNone o (CannotBegin caps c.as_slice.result.now)) c.in_default.is
    c.in_ok-searched.ensures.none in
    told_of_setup c.args.exploring.form c.args.exploring.bounds bytes _ plan asked _ _
    (subst (CannotBegin caps) (c.as_slice.ensures.value ∙ c.in_ok-setup.ensures) none) c.fault_alone.ensures.fault
    c.fault_alone.ensures.text

pub returns : goal.returns
returns c = λ bytes plan asked.
    let told = c.in_ok-searched.ensures in
    let script = c.args.parties.now.script in
    let same = c.as_slice.ensures.value ∙ c.in_ok-setup.ensures in
    let keeps = subst (λ o. IfSome o (λ searched. KeepsWays c.args.caps script c.as_slice.result.now searched))
    c.in-Some.is told.ways in
    told_of_search c.args.exploring.form c.args.exploring.bounds bytes _ plan asked c.in-Some.searched.explored
    (found_within (λ searched. searched.explored) c.args.exploring.bounds c.args.caps script _
    c.as_slice.result.now _ c.in-Some.searched c.in-Some.is same
    told.explored told.states told.nothing told.bounded told.depth) (map as_answer c.as_slice-2.result.now)
    (subst (λ (l : List Answered). AreAnswers c.args.caps script (setup_events c.args.actions.now)
    c.in-Some.searched.explored
    (map question_asked c.args.questions.now) (map as_answer l)) (sym c.as_slice-2.ensures.value)
    (subst (λ events. AreAnswers c.args.caps script events c.in-Some.searched.explored
    (map question_asked c.args.questions.now) (map as_answer c.in_ok-answers.answers.items)) same
    (c.in_ok-answers.ensures keeps))) _ _ c.in_ok-rendering.ensures.fault c.in_ok-rendering.ensures.text
