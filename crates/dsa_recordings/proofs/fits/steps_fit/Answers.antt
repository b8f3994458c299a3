use Rattle.dsa_recordings.proofs.fits.steps_fit.Goals as goal
use Rattle.dsa_recordings.proofs.Askable.{step_more, steps_end}

pub loop-step-preserved : goal.loop-step-preserved
loop-step-preserved c =
    step_more c.args.steps.now c.loop-step.step-index _ c.loop-step-test.true c.step_fits.ensures c.loop-step.invariant

pub returns : goal.returns
returns c = steps_end c.args.steps.now c.loop-step.step-index c.loop-step-test.false c.loop-step.invariant
