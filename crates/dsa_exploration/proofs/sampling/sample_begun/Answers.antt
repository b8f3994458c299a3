use Rattle.dsa_exploration.proofs.sampling.sample_begun.Goals as goal
use Rattle.std.proofs.Common.{◌∙◌, Ok, ap, map, string_bytes, sym}
use Rattle.serde_json.specs.View.{view}
use Rattle.dsa_questions.specs.Reading.{Inquiry, question_asked, questions_said}
use Rattle.dsa_questions.specs.Stating.{nameable}
use Rattle.dsa_exploration.proofs.{Faults.{other_than}, Plans.{planned}, WalkTexts.{questions_alone}}

pub returns-in_default : goal.returns-in_default
returns-in_default c = λ bytes plan is.
    let labels = map string_bytes c.args.parties.labels.items in
    let acts = map string_bytes c.args.parties.acts.items in
    let names = nameable c.args.begun.now.caps c.args.parties.script labels acts in
    let said = other_than c.in_default.not-OutOfMemory c.in-Err.ensures.err in
    questions_alone c.args.sampling.form c.args.sampling.walks bytes _ _ _ (record {
      caps = _;
      script = _;
      setup = _;
      labels = labels;
      acts = acts;
      plan = plan;
      said = ap (questions_said names) is ∙ said;
    }) c.fault_alone.ensures.text c.fault_alone.ensures.fault

pub returns : goal.returns
returns c = λ bytes plan is.
    let labels = map string_bytes c.args.parties.labels.items in
    let acts = map string_bytes c.args.parties.acts.items in
    let script = c.args.parties.script in
    let asked = map question_asked c.as_slice-asked.result.now in
    planned bytes c.args.begun.now.caps script c.watching-parties.result.script c.as_slice-actions.result.now
    c.args.begun.now.actions.items labels acts
    (map string_bytes c.watching-parties.result.labels.items)
    (map string_bytes c.watching-parties.result.acts.items) asked
    c.in-Ok.questions.watches.items (view c.args.document.now)
    c.as_slice-actions.ensures.value (ap (λ v. map string_bytes v.items) c.watching-parties.ensures.labels)
    (ap (λ v. map string_bytes v.items) c.watching-parties.ensures.acts) c.watching-parties.ensures.tables
    (ap (λ v. v.items) c.watching-parties.ensures.watches) (c.in_ok-rendering.ensures bytes)
    (c.in-Ok.ensures.ok
    ∙ ap (λ qs. Ok (record { asked = map question_asked qs; watches = c.in-Ok.questions.watches.items }))
    (sym c.as_slice-asked.ensures.value)) plan is
