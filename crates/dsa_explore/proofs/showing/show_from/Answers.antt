use Rattle.dsa_explore.proofs.showing.show_from.Goals as goal
use Rattle.std.proofs.Common.{◌∙◌, List, option_map, sym, ap, subst, length, arith}
use Rattle.dsa_explore.specs.declared.stored.{Node.{Node}, Try.{Try}}
use Rattle.dsa_explore.specs.{Walked.{space_of}, Ways.{IsWay}}
use Rattle.dsa_explore.proofs.{Kept.{other-level}, Ways.{map-none, map-ok}}

pub returns-then-ne-clause-none : goal.returns-then-ne-clause-none
returns-then-ne-clause-none c = λ fits first table x tried begun ways at later telling.
    let node = ways.each c.args.number x at in
    let level = ways.levels c.args.number node.0 x node.1 at in
    let less = rw c.in-Some.is at c.checked_sub.ensures in
    other-level c.level_of.result node.0.level c.in-Some.level
    (c.level_of.ensures ∙ ap (option_map (λ (n : Node). n.level)) node.1)
    (omega (arith, level, later, less.0, less.1)) (sym c.ne.ensures ∙ c.if-ne.true)

pub returns-in_default-2-clause-none : goal.returns-in_default-2-clause-none
returns-in_default-2-clause-none c = λ fits first table x tried begun ways at later telling.
    (rw c.in_default-2.is at c.in_ok-path.ensures.none) (space_of c.args.plan.now.caps c.args.plan.now.script.now) first
    table x ways at

pub returns-then-len-level-clause-none : goal.returns-then-len-level-clause-none
returns-then-len-level-clause-none c = λ fits first table x tried begun ways at later telling.
    let way = (rw c.in-Some-2.is at c.in_ok-path.ensures.way) (space_of c.args.plan.now.caps c.args.plan.now.script.now)
    first table x ways at in
    let less = rw c.in-Some.is at c.checked_sub.ensures in
    c.if-len-level.true (omega (arith, c.len.ensures, c.in-Some-2.path.ok.0, way.1, later, less.0, less.1))

pub returns-clause-none : goal.returns-clause-none
returns-clause-none c = λ fits.
    let less = rw c.in-Some.is at c.checked_sub.ensures in
    let long = c.len.ensures ∙ c.in-Some-2.path.ok.0 in
    map-ok c.show_after.result (c.show_after.ensures.none (omega (
      arith,
      fits,
      less.0,
      less.1,
      c.if-len-level.false,
      long,
      ap length c.as_slice.ensures.value,
    )))
    (λ found none. map-none found none (λ stops first table x tried begun ways at later telling.
    let way = (rw c.in-Some-2.is at c.in_ok-path.ensures.way) (space_of c.args.plan.now.caps c.args.plan.now.script.now)
    first table x ways at in
    stops first x.world tried begun
    (subst (λ (l : List Try). IsWay (space_of c.args.plan.now.caps c.args.plan.now.script.now) first l x.world)
    (sym c.as_slice.ensures.value) way.0) telling))
