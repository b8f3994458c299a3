use Rattle.dsa_plans.proofs.acting.add_acts.Goals as goal
use Rattle.std.proofs.Common.{◌∙◌, sym}
use Rattle.dsa_plans.specs.Acting.{act_said}
use Rattle.dsa_plans.proofs.Steps.{each-next}

pub loop-step-preserved : goal.loop-step-preserved
loop-step-preserved c =
    let more = each-next act_said c.loop-step.acts.items c.args.steps.now c.loop-step.step-index c.step-item.result
    c.in-Some.act c.loop-step-test.true c.step-item.is (sym c.in-Some.ensures) in
    rw c.in_ok-push.ensures.items (sym more ∙ c.loop-step.invariant)
