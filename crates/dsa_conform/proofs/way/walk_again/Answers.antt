use Rattle.dsa_conform.proofs.way.walk_again.Goals as goal
use Rattle.std.proofs.Common.{◌≡◌, arith, take, subst}
use Rattle.dsa_conform.specs.{Seen.{seen_as}, Run.{IsFollowedTo}, Sights.{steps_counted}}
use Rattle.dsa_conform.proofs.Steps.{come_on, reads_counted}

pub loop-i-init : goal.loop-i-init
loop-i-init c = (omega arith, λ observed read. c.in_ok-way.ensures)

pub unreachable-requires : goal.unreachable-requires
unreachable-requires c =
    reads_counted c.args.sights.now c.requires.read.0 c.loop-i.i c.requires.read.1 (omega arith) c.in_default.ensures

pub loop-i-preserved : goal.loop-i-preserved
loop-i-preserved c = (
  omega (arith, c.loop-i-test.true),
  λ observed read.
      come_on (steps_counted c.args.sights.now) observed c.loop-i.i (c.in-Some.action, seen_as c.in-Some.seen) _ _ _ _ _
      _ read c.in-Some.ensures c.in_ok-entry.ensures.follows (c.loop-i.invariant.1 observed read),
)

pub returns : goal.returns
returns c = record {
  follows = λ observed read.
      let same : c.loop-i.i ≡ c.args.count = omega (arith, c.loop-i-test.false, c.loop-i.invariant.0) in
      subst (λ n. IsFollowedTo c.args.sights.now.head.now.caps c.args.sights.now.head.now.capacity (take n observed) n
      c.loop-i.way.device c.loop-i.way.tickets.items) same (c.loop-i.invariant.1 observed read);
  queues = c.in_ok-took_from.ensures c.if-not-branch.false;
}
