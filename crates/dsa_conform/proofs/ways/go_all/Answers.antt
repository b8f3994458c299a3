use Rattle.dsa_conform.proofs.ways.go_all.Goals as goal
use Rattle.std.proofs.Common.{◌∙◌, ◌∷◌, ap, sym, rules}
use Rattle.dsa_conform.specs.{Seen.{seen_as}, Sights.{steps_counted}}
use Rattle.dsa_conform.proofs.Companions.{all_left, one_left, none_left, has_none}
use Rattle.dsa_conform.proofs.Placing.{front_removed}

pub loop-alloc-init : goal.loop-alloc-init
loop-alloc-init c =
    all_left c.args.sights.now.head.now.caps c.args.sights.now.head.now.capacity (steps_counted c.args.sights.now)
    (c.args.action, seen_as c.args.seen.now) c.args.number _ _ _ c.requires.none c.new-tolds.ensures.items

pub loop-alloc-preserved : goal.loop-alloc-preserved
loop-alloc-preserved c =
    one_left c.args.sights.now.head.now.caps c.args.sights.now.head.now.capacity (steps_counted c.args.sights.now)
    (c.args.action, seen_as c.args.seen.now) c.args.number _ _ _ _ _ _ _ _ c.loop-alloc.invariant
    (front_removed _ c.remove-way.result (search rules) c.remove-way.ensures.value
    ∙ ap (λ l. c.remove-way.result ∷ l) (sym c.remove-way.ensures.items)) c.in_ok-go_on.ensures

pub returns : goal.returns
returns c =
    none_left c.args.sights.now.head.now.caps c.args.sights.now.head.now.capacity (steps_counted c.args.sights.now)
    (c.args.action, seen_as c.args.seen.now) c.args.number _ _ _ _ c.loop-alloc.invariant
    (has_none _ (rw c.as_slice.ensures.value at (sym c.is_empty.ensures ∙ c.loop-alloc-test.false)))
