use Rattle.dsa_conform.proofs.ways.go_on.Goals as goal
use Rattle.std.proofs.Common.{◌∙◌, ap, sym, subst, take}
use Rattle.std.proofs.lemmas.Result.{on_ok_weaker}
use Rattle.dsa_conform.specs.{Seen.{seen_as}, Sights.{steps_counted}, Ways.{AreAdded, IsOneWay, queues_taken}}
use Rattle.dsa_conform.proofs.Companions.{forked, not_forked, gone_alone, gone_telling}

pub walk_step-requires : goal.walk_step-requires
walk_step-requires c = λ caps capacity done number h.
    subst (λ q. IsOneWay c.args.way.device q (seen_as c.args.seen.now))
    (c.event_for-asked.ensures h.records (rw c.as_slice.ensures.value h.table))
    (not_forked c.args.way.device c.event_for-asked.result (seen_as c.args.seen.now) c.in_ok-queues.queues.items
    (rw c.as_slice-2.ensures.value at (sym c.is_empty.ensures ∙ c.if-not-is_empty.false)) c.in_ok-queues.ensures)

pub returns-then-not-is_empty : goal.returns-then-not-is_empty
returns-then-not-is_empty c =
    let steps = steps_counted c.args.sights.now in
    let taken = c.as_slice-then-not-is_empty in
    let queues = c.as_slice-then-not-is_empty-2 in
    on_ok_weaker c.add_forks.result
    (λ added. forked c.args.sights.now.head.now.caps c.args.sights.now.head.now.capacity steps
    (c.args.action, seen_as c.args.seen.now)
    c.args.number c.args.way c.args.ways.now.items c.add_forks.new.ways.items _ c.event_for-asked.result
    c.in_ok-queues.queues.items c.in_ok-choices.choices.items
    (λ before t. c.event_for-asked.ensures before (rw c.as_slice.ensures.value t))
    (rw c.as_slice-2.ensures.value at (sym c.is_empty.ensures ∙ c.if-not-is_empty.true)) c.in_ok-queues.ensures
    (c.in_ok-choices.ensures ∙ ap queues_taken c.history.ensures)
    (subst (λ l. AreAdded c.args.sights.now.head.now.caps c.args.sights.now.head.now.capacity steps c.args.number
    c.in_ok-choices.choices.items l
    c.args.ways.now.items c.add_forks.new.ways.items) queues.ensures.value
    (subst (λ l. AreAdded c.args.sights.now.head.now.caps c.args.sights.now.head.now.capacity steps c.args.number l
    queues.result.now c.args.ways.now.items c.add_forks.new.ways.items) taken.ensures.value added)))
    c.add_forks.ensures

pub returns-in-Some : goal.returns-in-Some
returns-in-Some c = λ observed read h.
    gone_telling c.args.sights.now.head.now.caps c.args.sights.now.head.now.capacity (take c.args.number observed)
    (c.args.action, seen_as c.args.seen.now) c.args.number c.args.way.device _ c.walk_step.new.way _ _ _ c.in-Some.told
    (rw c.in-Some.is at
    (c.in_ok-told.ensures c.args.sights.now.head.now.caps c.args.sights.now.head.now.capacity
    (take c.args.number observed) c.args.number
    read.is_named h))
    c.in_ok-push.ensures.items

pub returns : goal.returns
returns c =
    on_ok_weaker c.add_way.result
    (λ added observed read h.
    gone_alone c.args.sights.now.head.now.caps c.args.sights.now.head.now.capacity (take c.args.number observed)
    (c.args.action, seen_as c.args.seen.now) c.args.number c.args.way.device _ c.walk_step.new.way _ _ _
    (rw c.in_default.is at
    (c.in_ok-told.ensures c.args.sights.now.head.now.caps c.args.sights.now.head.now.capacity
    (take c.args.number observed) c.args.number
    read.is_named h))
    added)
    c.add_way.ensures
