use Rattle.dsa_conform.proofs.untaken.queue_named.Goals as goal
use Rattle.std.proofs.Common.{◌∙◌, sym}
use Rattle.dsa_conform.specs.Against.{ends_with_queue}
use Rattle.dsa_conform.proofs.FactSteps.{none_found, one_found}

pub loop-queue-preserved : goal.loop-queue-preserved
loop-queue-preserved c =
    none_found (ends_with_queue c.args.text.now) c.loop-queue.queue c.loop-queue.invariant
    (sym c.in_ok-named.ensures ∙ c.if-named.false)

pub returns-then-named-clause-named : goal.returns-then-named-clause-named
returns-then-named-clause-named c =
    sym (one_found (ends_with_queue c.args.text.now) c.args.queues c.loop-queue.queue c.loop-queue-test.true
    c.loop-queue.invariant (sym c.in_ok-named.ensures ∙ c.if-named.true))
