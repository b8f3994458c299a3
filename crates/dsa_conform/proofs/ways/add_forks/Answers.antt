use Rattle.dsa_conform.proofs.ways.add_forks.Goals as goal
use Rattle.std.proofs.Common.{sym, subst, take}
use Rattle.std.proofs.lemmas.List.{take_more}
use Rattle.dsa_conform.specs.{Sights.{steps_counted}, Ways.{AreAdded}}
use Rattle.dsa_conform.proofs.Companions.{none_added, more_added}

pub loop-queue-init : goal.loop-queue-init
loop-queue-init c = none_added _ _ _ _ _ _

pub loop-queue-preserved : goal.loop-queue-preserved
loop-queue-preserved c =
    let steps = steps_counted c.args.sights.now in
    let qs = c.args.queues.now in
    let i = c.loop-queue.queue-index in
    subst (λ l. AreAdded c.args.sights.now.head.now.caps c.args.sights.now.head.now.capacity steps c.args.number
    c.args.choices.now l c.args.ways.now.items c.add_way.new.ways.items)
    (sym (take_more qs i 0 c.loop-queue-test.true))
    (more_added c.args.sights.now.head.now.caps c.args.sights.now.head.now.capacity steps c.args.number
    c.args.choices.now (take i qs) _ _ _ _
    c.in_ok-way.way c.loop-queue.invariant c.in_ok-way.ensures c.in_ok-add_way.ensures)
