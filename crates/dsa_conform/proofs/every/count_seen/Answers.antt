use Rattle.dsa_conform.proofs.every.count_seen.Goals as goal
use Rattle.std.proofs.Common.{refl, arith}
use Rattle.dsa_conform.proofs.{Objects.{at_item}, Steps.{count_more, reads_value}, Striking.{counted_all}}

pub loop-step-init : goal.loop-step-init
loop-step-init c = (c.requires.0, record { read = c.requires.1; counted = refl; at_most = omega arith })

pub unreachable-requires : goal.unreachable-requires
unreachable-requires c = reads_value c.args.head.now.steps.now c.loop-step.invariant.0 c.loop-step.step-index
    c.step-item.result c.loop-step.invariant.1.read c.loop-step-test.true c.step-item.is c.in_default.ensures

pub loop-step-preserved : goal.loop-step-preserved
loop-step-preserved c = (
  c.loop-step.invariant.0,
  count_more _ c.count_more-more.result c.loop-step.invariant.1
      (at_item c.args.head.now.steps.now c.loop-step.step-index c.step-item.result _ c.loop-step-test.true
      c.step-item.is c.in-Some.ensures)
      c.count_more-more.ensures,
)

pub returns : goal.returns
returns c = λ observed read.
    counted_all c.args.head.now.steps.now c.loop-step.invariant.0 observed c.loop-step.step-index c.loop-step.answers
    c.loop-step.invariant.1.read read c.loop-step-test.false c.loop-step.invariant.1.counted
