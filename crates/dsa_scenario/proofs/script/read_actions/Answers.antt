use Rattle.dsa_scenario.proofs.script.read_actions.Goals as goal
use Rattle.std.proofs.Common.{inr}
use Rattle.dsa_scenario.proofs.StepObjects.{parsed_more, bad_here, all_asked}

pub returns-in-None-clause-bad : goal.returns-in-None-clause-bad
returns-in-None-clause-bad c = inr (bad_here c.args.steps.now c.loop-i.i c.index-steps-i.result
    c.loop-i.actions.items c.loop-i-test.true c.index-steps-i.is c.in-None.ensures c.loop-i.invariant)

pub loop-i-preserved : goal.loop-i-preserved
loop-i-preserved c =
    rw c.in_ok-push-in-Some.ensures.items (parsed_more c.args.steps.now c.loop-i.i c.index-steps-i.result
    c.in-Some.action
    c.loop-i.actions.items c.loop-i-test.true c.index-steps-i.is c.in-Some.ensures c.loop-i.invariant)

pub returns-clause-ok : goal.returns-clause-ok
returns-clause-ok c =
    all_asked c.args.steps.now c.loop-i.i c.loop-i.actions.items c.loop-i-test.false c.loop-i.invariant
