use Rattle.dsa_conform.proofs.offering.shown_queues.Goals as goal
use Rattle.std.proofs.Common.{inl, inr, rules}
use Rattle.dsa_conform.specs.Seen.{seen_as}
use Rattle.dsa_conform.proofs.PartA.{found_more}

pub loop-queue-preserved : goal.loop-queue-preserved
loop-queue-preserved g c = (
  found_more c.args.device.now.state.work c.args.engine c.loop-queue.queue (seen_as c.args.seen.now)
      c.loop-queue.found.items c.add_shown.new.found.items c.loop-queue.invariant.0
      c.in_ok-add_shown.ensures.keeps c.in_ok-add_shown.ensures.adds,
  λ q i. elim (c.in_ok-add_shown.ensures.each q i) [
    | inl old ↦ c.loop-queue.invariant.1 q old
    | inr offered ↦ offered
  ],
)

pub returns-clause-all : goal.returns-clause-all
returns-clause-all g c = λ q entry below is shown. c.loop-queue.invariant.0 q entry (search rules) is shown
