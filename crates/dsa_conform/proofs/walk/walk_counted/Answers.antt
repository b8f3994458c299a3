use Rattle.dsa_conform.proofs.walk.walk_counted.Goals as goal
use Rattle.std.proofs.Common.{refl, arith}
use Rattle.std.proofs.lemmas.Result.{IfOk-weaker}
use Rattle.dsa_scenario.specs.declared.actions.Action.{Action}
use Rattle.dsa_conform.specs.{Seen.{Seen, seen_as}, Sights.{steps_counted}}
use Rattle.dsa_conform.proofs.{Companions.{one_at_first}, Steps.{count_more, reads_counted, conforms}}
use Rattle.dsa_conform.proofs.Verdicts.{one_on, one_differs, differing}

pub loop-i-init : goal.loop-i-init
loop-i-init c = (
  c.requires.0,
  record { read = c.requires.1; counted = refl; at_most = omega arith },
  one_at_first c.args.sights.now.head.now.caps c.args.sights.now.head.now.capacity c.in_ok-way.way c.in_ok-way.ensures,
)

pub unreachable-requires : goal.unreachable-requires
unreachable-requires c =
    reads_counted c.args.sights.now c.loop-i.invariant.0 c.loop-i.i c.loop-i.invariant.1.read c.loop-i-test.true
    c.in_default.ensures

pub walk_forked-requires-clause-read : goal.walk_forked-requires-clause-read
walk_forked-requires-clause-read c =
    (c.loop-i.invariant.0, c.loop-i.invariant.1.read, c.loop-i.invariant.2, c.loop-i.invariant.1.counted)

pub returns-in-Some-differs : goal.returns-in-Some-differs
returns-in-Some-differs c =
    IfOk-weaker c.differs_by.result _ _ (λ verdict is.
    differing c.args.sights.now.head.now.caps c.args.sights.now.head.now.capacity _ verdict.fault c.loop-i.i _ is.0
    (one_differs (steps_counted c.args.sights.now) c.loop-i.invariant.0 c.loop-i.i
    (c.in-Some.action, seen_as c.in-Some.seen) c.args.sights.now.head.now.caps c.args.sights.now.head.now.capacity
    c.loop-i.way c.walk_step.new.way c.in_ok-differs.differs c.in-Some-differs.told _ c.loop-i.invariant.1.read
    c.in-Some.ensures c.in_ok-differs.ensures c.in-Some-differs.is is.1 c.loop-i.invariant.2))
    c.differs_by.ensures

pub loop-i-preserved : goal.loop-i-preserved
loop-i-preserved c =
    let here : Action × Seen = (c.in-Some.action, seen_as c.in-Some.seen) in (
      c.loop-i.invariant.0,
      count_more here _ c.loop-i.invariant.1 c.in-Some.ensures c.count_more-more.ensures,
      one_on (steps_counted c.args.sights.now) c.loop-i.invariant.0 c.loop-i.i here
          c.args.sights.now.head.now.caps c.args.sights.now.head.now.capacity c.loop-i.way c.walk_step.new.way
          c.in_ok-differs.differs c.loop-i.invariant.1.read c.in-Some.ensures c.in_ok-differs.ensures
          c.in_default-differs.is c.loop-i.invariant.2,
    )

pub returns : goal.returns
returns c =
    conforms c.args.sights.now _ c.loop-i.invariant.1 c.loop-i.invariant.2 c.loop-i-test.false c.in_ok-text.ensures
