use Rattle.dsa_exploration.proofs.answering.answer_parties.Goals as goal
use Rattle.std.proofs.Common.{◌∙◌, List, map, refl, string_bytes, subst, sym}
use Rattle.std.specs.Prelude.{IfNone, IfSome}
use Rattle.dsa_book.specs.declared.event.Event.{Event}
use Rattle.dsa_explore.specs.{Kept.{KeepsWays}, Walked.{CannotBegin}}
use Rattle.dsa_questions.specs.Reading.{Inquiry, question_asked}
use Rattle.dsa_exploration.specs.{Plan.{IsPlan}, Showing.{IsSearchFor}}
use Rattle.dsa_exploration.proofs.{Answered.{answered-of-setup}, Plans.{found_within}}

pub returns-in_default : goal.returns-in_default
returns-in_default c = λ bytes plan asked called.
    let caps = c.args.caps in
    let none = subst (λ o. IfNone o (CannotBegin caps c.as_slice.result.now)) c.in_default.is
    c.in_ok-searched.ensures.none in
    answered-of-setup c.args.showing.now.bounds c.args.showing.now.row.now bytes called _ _ _ plan asked
    (subst (CannotBegin caps) (c.as_slice.ensures.value ∙ c.in_ok-setup.ensures) none) c.fault_alone.ensures.fault
    c.fault_alone.ensures.text

pub returns : goal.returns
returns c = λ bytes plan asked called.
    let caps = c.args.caps in
    let script = c.args.parties.now.script in
    let setup = c.as_slice.ensures.value ∙ c.in_ok-setup.ensures in
    let told = c.in_ok-searched.ensures in
    let labels = map string_bytes c.args.parties.now.labels.items in
    let acts = map string_bytes c.args.parties.now.acts.items in
    c.in_ok-rendering.ensures bytes labels acts script.watches.items
    (subst (λ (events : List Event). IsSearchFor c.args.showing.now.bounds bytes caps script events labels acts
    (record { asked = map question_asked c.args.questions.now; watches = script.watches.items })
    c.in-Some.searched.explored) (sym setup) (record {
      plan = plan;
      asked = asked;
      search = found_within (λ searched. searched.explored) c.args.showing.now.bounds caps script _ _ _
          c.in-Some.searched c.in-Some.is setup told.explored told.states told.nothing told.bounded told.depth;
    })) called
    (subst (λ o. IfSome o (λ searched. KeepsWays caps script c.as_slice.result.now searched)) c.in-Some.is told.ways)
