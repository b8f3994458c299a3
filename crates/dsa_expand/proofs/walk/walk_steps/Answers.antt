use Rattle.dsa_expand.proofs.walk.walk_steps.Goals as goal
use Rattle.std.proofs.Common.{◌≡◌, Some, map, option_map}
use Rattle.serde_json.specs.View.{view}
use Rattle.dsa_expand.specs.{Members.{given_as, pairs_of_step}, Steps.{strict_step}}
use Rattle.dsa_expand.proofs.{Shallow.{flat_at}, Walked.{stuck_here, walked_next, walked_all}}

pub loop-i-init : goal.loop-i-init
loop-i-init c caps capacity h = h

pub loop-i-preserved : goal.loop-i-preserved
loop-i-preserved c caps capacity h =
    walked_next caps capacity c.args.steps.now c.loop-i.i c.index-steps-i.result _ _ _ _ c.loop-i-test.true
    c.index-steps-i.is (c.in_ok-make_step.ensures caps capacity _ (c.loop-i.invariant caps capacity h))

pub returns-in_default : goal.returns-in_default
returns-in_default c caps capacity h =
    let found : option_map pairs_of_step c.in_ok-strict.field-0
    ≡ strict_step (Some (map given_as c.as_slice.result.now)) (view c.index-steps-i.result) =
    c.in_ok-strict.ensures.strict in
    stuck_here caps capacity c.args.steps.now c.loop-i.i c.index-steps-i.result _ _ _ _ c.loop-i-test.true
    c.index-steps-i.is (rw (c.in_default.is, c.as_slice.ensures.value) at found) (c.loop-i.invariant caps capacity h)

pub returns : goal.returns
returns c caps capacity h =
    walked_all caps capacity c.args.steps.now c.loop-i.i _ _ _ _ c.loop-i-test.false (c.loop-i.invariant caps capacity h)

pub strict_step-requires : goal.strict_step-requires
strict_step-requires c =
    flat_at 127 c.loop-i.i c.args.steps.now c.index-steps-i.result c.loop-i-test.true c.index-steps-i.is c.requires
