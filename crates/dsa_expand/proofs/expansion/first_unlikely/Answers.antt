use Rattle.dsa_expand.proofs.expansion.first_unlikely.Goals as goal
use Rattle.std.proofs.Common.{[], refl}
use Rattle.dsa_expand.specs.Members.{pairs_of_step}
use Rattle.dsa_expand.proofs.{Shallow.{flat_at}, Whole.{all_likely, likely_more, unlikely_here}}

pub loop-i-init : goal.loop-i-init
loop-i-init c = ([], refl)

pub returns : goal.returns
returns c = all_likely c.args.steps.now c.loop-i.i c.loop-i-test.false c.loop-i.invariant

pub loop-i-preserved : goal.loop-i-preserved
loop-i-preserved c =
    likely_more c.args.steps.now c.loop-i.i c.index-steps-i.result (pairs_of_step c.in-Some.field-0) c.loop-i-test.true
    c.index-steps-i.is (rw c.in-Some.is at c.in_ok-strict_step.ensures.strict) c.loop-i.invariant

pub strict_step-requires : goal.strict_step-requires
strict_step-requires c =
    flat_at 127 c.loop-i.i c.args.steps.now c.index-steps-i.result c.loop-i-test.true c.index-steps-i.is c.requires

pub returns-in_default : goal.returns-in_default
returns-in_default c =
    unlikely_here c.args.steps.now c.loop-i.i c.index-steps-i.result c.loop-i-test.true c.index-steps-i.is
    (rw c.in_default.is at c.in_ok-strict_step.ensures.strict) c.loop-i.invariant
