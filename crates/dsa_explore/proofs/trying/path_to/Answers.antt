use Rattle.dsa_explore.proofs.trying.path_to.Goals as goal
use Rattle.std.proofs.Common.{◌≡◌, ◌∙◌, List, sym, subst, length, arith}
use Rattle.dsa_explore.specs.declared.stored.Try.{Try}
use Rattle.dsa_explore.specs.Ways.{IsWay}
use Rattle.dsa_explore.proofs.Ways.{IsPart, beyond, part-none, part-node, part-whole, part-more, nodes-below}
use Rattle.std.proofs.lemmas.Bool.{eqb-true}

pub loop-init : goal.loop-init
loop-init c = λ space first table x tell at. (
  omega arith,
  subst (λ (l : List Try). IsPart space table c.args.number l x) (sym c.new-path.ensures.items)
      (part-none space table c.args.number x at),
)

pub returns-in_default-clause-none : goal.returns-in_default-clause-none
returns-in_default-clause-none c = λ space first table x tell at.
    part-node space first c.args.nodes.now table tell x c.loop.at c.loop.path.items
    (c.loop.invariant space first table x tell at).1 (sym c.node_at.ensures ∙ c.in_default.is)

pub returns-then-is_first-clause-way : goal.returns-then-is_first-clause-way
returns-then-is_first-clause-way c = λ space first table x tell at.
    let whole = part-whole space first c.args.nodes.now table tell x c.loop.at c.in-Some.node c.loop.path.items
    (c.loop.invariant space first table x tell at).1 (sym c.node_at.ensures ∙ c.in-Some.is)
    (eqb-true c.in-Some.node.level 0 (sym c.is_first.ensures ∙ c.if-is_first.true)) in
    subst (λ (l : List Try). IsWay space first l x.world × (length l ≡ x.level)) (sym c.reversed.ensures) whole

pub loop-preserved : goal.loop-preserved
loop-preserved c = λ space first table x tell at.
    let p = c.loop.invariant space first table x tell at in
    let more = part-more space first c.args.nodes.now table tell x c.loop.at c.in-Some.node c.loop.path.items p.1
    (sym c.node_at.ensures ∙ c.in-Some.is)
    (beyond c.in-Some.node.level (sym c.is_first.ensures ∙ c.if-is_first.false)) in (
      omega (arith, p.0, more.0),
      subst (λ (l : List Try). IsPart space table c.in-Some.node.parent l x) (sym c.in_ok-push.ensures.items) more.1,
    )

pub returns-clause-none : goal.returns-clause-none
returns-clause-none c = λ space first table x tell at.
    let below = nodes-below space first c.args.nodes.now table tell x c.args.number at in
    omega (arith, below, (c.loop.invariant space first table x tell at).0, c.loop-test.false)
