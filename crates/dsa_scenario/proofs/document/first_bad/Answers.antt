use Rattle.dsa_scenario.proofs.document.first_bad.Goals as goal
use Rattle.std.proofs.Common.{[], ◌∷◌, ◌++◌, refl}
use Rattle.dsa_scenario.proofs.StepObjects.{parsed_more, bad_here, all_asked}

pub loop-i-init : goal.loop-i-init
loop-i-init c = ([], refl)

pub returns-in_default : goal.returns-in_default
returns-in_default c = bad_here c.args.steps.now c.loop-i.i c.index-steps-i.result c.loop-i.invariant.0
    c.loop-i-test.true c.index-steps-i.is c.in_default.ensures c.loop-i.invariant.1

pub loop-i-preserved : goal.loop-i-preserved
loop-i-preserved c =
    let before = c.loop-i.invariant in (
      before.0 ++ c.in-Some.field-0 ∷ [],
      parsed_more c.args.steps.now c.loop-i.i c.index-steps-i.result _ before.0 c.loop-i-test.true
          c.index-steps-i.is c.in-Some.ensures before.1,
    )

pub returns : goal.returns
returns c =
    let asked = c.loop-i.invariant in
    (asked.0, all_asked c.args.steps.now c.loop-i.i asked.0 c.loop-i-test.false asked.1)
