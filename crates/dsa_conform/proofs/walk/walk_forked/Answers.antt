use Rattle.dsa_conform.proofs.walk.walk_forked.Goals as goal
use Rattle.std.proofs.Common.{refl, option_map, string_bytes}
use Rattle.dsa_scenario.specs.declared.actions.Action.{Action}
use Rattle.dsa_conform.specs.{Seen.{Seen, seen_as}, Sights.{steps_counted}}
use Rattle.dsa_conform.proofs.{Steps.{count_more, reads_counted, conforms}, Verdicts.{all_on, all_differ_at}}

pub unreachable-requires : goal.unreachable-requires
unreachable-requires c =
    reads_counted c.args.sights.now c.loop-i.invariant.0 c.loop-i.i c.loop-i.invariant.1.read c.loop-i-test.true
    c.in_default.ensures

pub returns-in-Some-differs : goal.returns-in-Some-differs
returns-in-Some-differs c =
    all_differ_at (steps_counted c.args.sights.now) c.loop-i.invariant.0 c.loop-i.i
    (c.in-Some.action, seen_as c.in-Some.seen) c.args.sights.now.head.now.caps c.args.sights.now.head.now.capacity _ _
    (option_map string_bytes c.in_ok-differs.differs) (string_bytes c.in-Some-differs.text) c.loop-i.invariant.1.read
    c.in-Some.ensures c.in_ok-differs.ensures (rw c.in-Some-differs.is refl) c.loop-i.invariant.2

pub loop-i-preserved : goal.loop-i-preserved
loop-i-preserved c =
    let here : Action × Seen = (c.in-Some.action, seen_as c.in-Some.seen) in (
      c.loop-i.invariant.0,
      count_more here _ c.loop-i.invariant.1 c.in-Some.ensures c.count_more-more.ensures,
      all_on (steps_counted c.args.sights.now) c.loop-i.invariant.0 c.loop-i.i here
          c.args.sights.now.head.now.caps c.args.sights.now.head.now.capacity _ _
          (option_map string_bytes c.in_ok-differs.differs) c.loop-i.invariant.1.read c.in-Some.ensures
          c.in_ok-differs.ensures (rw c.in_default-differs.is refl) c.loop-i.invariant.2,
    )

pub returns : goal.returns
returns c =
    conforms c.args.sights.now _ c.loop-i.invariant.1 c.loop-i.invariant.2 c.loop-i-test.false c.in_ok-text.ensures
