use Rattle.dsa_conform.proofs.alone.count_alone.Goals as goal
use Rattle.std.proofs.Common.{refl}
use Rattle.dsa_conform.specs.Seen.{seen_as}
use Rattle.dsa_conform.proofs.{OwnAnswers.{alone_all, alone_on, alone_to}, Steps.{reads_value}}

pub loop-i-init : goal.loop-i-init
loop-i-init c = λ observed read. c.in_ok-way.ensures

pub unreachable-requires : goal.unreachable-requires
unreachable-requires c = reads_value c.args.head.now.steps.now c.requires.0 c.loop-i.i c.step-item.result
    c.requires.1 c.loop-i-test.true c.step-item.is c.in_default.ensures

pub loop-i-preserved : goal.loop-i-preserved
loop-i-preserved c = λ observed read.
    alone_on c.args.head.now.steps.now observed c.loop-i.i c.step-item.result (c.in-Some.action, seen_as c.in-Some.seen)
    _ c.args.head.now.caps c.args.head.now.capacity _ _ _ _ read c.loop-i-test.true c.step-item.is c.in-Some.ensures
    c.if-not-branch.false c.in_ok-step_alone.ensures (c.loop-i.invariant observed read)

pub returns-then-not-branch-clause-shown : goal.returns-then-not-branch-clause-shown
returns-then-not-branch-clause-shown c = λ observed read.
    alone_to c.args.head.now.steps.now observed c.loop-i.i c.step-item.result (c.in-Some.action, seen_as c.in-Some.seen)
    _ c.args.head.now.caps c.args.head.now.capacity _ _ _ _ read c.loop-i-test.true c.step-item.is c.in-Some.ensures
    c.if-not-branch.true c.in_ok-step_alone.ensures (c.loop-i.invariant observed read)

pub returns-clause-shown : goal.returns-clause-shown
returns-clause-shown c = λ observed read.
    alone_all c.args.head.now.steps.now observed c.loop-i.i _ c.args.head.now.caps c.args.head.now.capacity _ _ read
    c.loop-i-test.false refl (c.loop-i.invariant observed read)
