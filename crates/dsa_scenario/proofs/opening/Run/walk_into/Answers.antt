use Rattle.dsa_scenario.proofs.opening.Run.walk_into.Goals as goal
use Rattle.std.proofs.Common.{◌≡◌, [], ◌∷◌, ◌++◌, ◌+◌, inr, refl, ap, sym, ◌∙◌, length, map, subst, Some}
use Rattle.std.proofs.lemmas.{List.{length-map}, Result.{err_from_is_err_and}}
use Rattle.serde_json.specs.View.{view}
use Rattle.dsa_scenario.specs.{Actions.{action_of}, Steps.{IsWalkTo}, Streams.{IsPageOfRest}}
use Rattle.dsa_scenario.proofs.{StepObjects.{parsed_more, bad_here, all_asked}, Walks.{counted}}
use Rattle.dsa_scenario.proofs.Streams.{other_page, taken_more, step_behind, walked_so_far, walked_to_refusal}

pub loop-i-init : goal.loop-i-init
loop-i-init g c = ([], refl, λ caps capacity first h. h)

pub returns-in-None-clause-bad : goal.returns-in-None-clause-bad
returns-in-None-clause-bad g c = inr (inr (bad_here c.args.steps.now c.loop-i.i c.index-steps-i.result
    c.loop-i.invariant.0 c.loop-i-test.true c.index-steps-i.is c.in-None.ensures c.loop-i.invariant.1))

pub returns-in-None-clause-stopped : goal.returns-in-None-clause-stopped
returns-in-None-clause-stopped g c caps capacity first h =
    let is_page = g.D.RenderSteps.is_page c.args.what.now in
    let before = c.loop-i.invariant in (
      λ e. absurd cc,
      λ e. walked_so_far (g.K.Sink.has_taken c.args.what.now first c.loop-i.sink) is_page caps capacity _ before.0 _ _ _ _
          before.1 (before.2 caps capacity first h),
    )

pub returns-in_err-step-in-Some-clause-stopped : goal.returns-in_err-step-in-Some-clause-stopped
returns-in_err-step-in-Some-clause-stopped g c =
    let p = err_from_is_err_and c.from_residual.result c.from_residual.ensures.1 in
    rw (p.1, p.2) (λ caps capacity first h.
    let is_page = g.D.RenderSteps.is_page c.args.what.now in
    let before = c.loop-i.invariant in (
      λ e. absurd cc,
      λ e. walked_so_far (g.K.Sink.has_taken c.args.what.now first c.loop-i.sink) is_page caps capacity _ before.0 _ _ _ _
          before.1 (before.2 caps capacity first h),
    ))

pub returns-in_err-take-clause-stopped : goal.returns-in_err-take-clause-stopped
returns-in_err-take-clause-stopped g c =
    let p = err_from_is_err_and c.from_residual-in_err-take.result c.from_residual-in_err-take.ensures.1 in
    rw (p.1, p.2) (λ caps capacity first h.
    let is_page = g.D.RenderSteps.is_page c.args.what.now in
    let taken = g.K.Sink.has_taken c.args.what.now first c.loop-i.sink in
    let before = c.loop-i.invariant in
    let one_more = step_behind taken is_page caps capacity before.0 c.in-Some.action c.loop-i.i _ _ _ _ _ _
    (λ done. c.in_ok-step-in-Some.ensures caps capacity before.0 done) (before.2 caps capacity first h) in (
      λ e. walked_to_refusal taken (g.K.Sink.has_stopped c.args.what.now first c.take.new.self) is_page caps capacity _
          (before.0 ++ c.in-Some.action ∷ []) (c.loop-i.i + 1) _ _ _
          (parsed_more c.args.steps.now c.loop-i.i c.index-steps-i.result c.in-Some.action before.0 c.loop-i-test.true
          c.index-steps-i.is c.in-Some.ensures before.1)
          (λ done rest was made. c.in_err-take.ensures.stopped first done rest was made) one_more,
      λ other. absurd (other c.in_err-take.ensures.fault.0),
    ))

pub loop-i-preserved : goal.loop-i-preserved
loop-i-preserved g c =
    let before = c.loop-i.invariant in (
      before.0 ++ c.in-Some.action ∷ [],
      parsed_more c.args.steps.now c.loop-i.i c.index-steps-i.result c.in-Some.action before.0 c.loop-i-test.true
          c.index-steps-i.is c.in-Some.ensures before.1,
      λ caps capacity first h.
          let is_page = g.D.RenderSteps.is_page c.args.what.now in
          let taken = g.K.Sink.has_taken c.args.what.now first c.loop-i.sink in
          let more = g.K.Sink.has_taken c.args.what.now first c.take.new.self in
          other_page (IsPageOfRest taken is_page) (IsPageOfRest more is_page) caps capacity
          (before.0 ++ c.in-Some.action ∷ []) (c.loop-i.i + 1) _ _ _ _
          (taken_more taken more is_page _ _ (λ done rest was made. c.in_ok-take.ensures.ok first done rest was made))
          (step_behind taken is_page caps capacity before.0 c.in-Some.action c.loop-i.i _ _ _ _ _ _
          (λ done. c.in_ok-step-in-Some.ensures caps capacity before.0 done) (before.2 caps capacity first h)),
    )

pub returns-clause-ok : goal.returns-clause-ok
returns-clause-ok g c =
    let walked = c.loop-i.invariant in
    let asked = all_asked c.args.steps.now c.loop-i.i walked.0 c.loop-i-test.false walked.1 in
    let count : length walked.0 ≡ length c.args.steps.now =
    sym (length-map walked.0 Some) ∙ ap length (sym asked) ∙ length-map (map view c.args.steps.now) action_of
    ∙ length-map c.args.steps.now view in (
      walked.0,
      asked,
      λ caps capacity first h.
          let made = IsPageOfRest (g.K.Sink.has_taken c.args.what.now first c.loop-i.sink)
          (g.D.RenderSteps.is_page c.args.what.now) in
          subst (λ n. IsWalkTo made caps capacity walked.0 n c.loop-i.self.device
          c.loop-i.self.tickets.items c.loop-i.page) count
          (counted made caps capacity walked.0 c.loop-i.i c.loop-i.self.device
          c.loop-i.self.tickets.items c.loop-i.page (walked.2 caps capacity first h)),
    )
