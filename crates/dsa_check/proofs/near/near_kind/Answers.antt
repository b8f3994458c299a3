use Rattle.dsa_check.proofs.near.near_kind.Goals as goal
use Rattle.std.proofs.Common.{◌≡◌, [], drop, refl, sym, ◌∙◌, ap}
use Rattle.std.proofs.lemmas.List.{drop_more, drop_all}
use Rattle.dsa_scenario.specs.Actions.{kinds, kind_text}
use Rattle.dsa_scenario.specs.declared.actions.StepKind.{TheVariants.{Queue}}
use Rattle.dsa_check.specs.Reasons.{distance_of, near_kind}
use Rattle.dsa_check.proofs.Nearest.{taken, passed}
use Rattle.dsa_check.proofs.near.near_kind.Goals.{then-is_below, else-is_below}

pub loop-kind-init : goal.loop-kind-init
unfolding near_kind
loop-kind-init c = refl

pub loop-kind-preserved : goal.loop-kind-preserved
loop-kind-preserved c =
    let next = drop_more kinds c.loop-kind.kind-index Queue c.loop-kind-test.true in
    let so = rw next at c.loop-kind.invariant in
    elim c.if-is_below.branch [
      | then-is_below w ↦
          rw (w.nearest-is, w.least-is, w.unwrap_or-least.ensures)
          (taken (λ kind. distance_of (kind_text kind) c.args.name.now) _ _ _ _ _ _
          (c.in_ok-distance.ensures ∙ ap (λ name. distance_of name c.args.name.now) c.name.ensures) so
          (sym c.is_below.ensures ∙ w.if-is_below.true))
      | else-is_below w ↦
          rw (w.nearest-is, w.least-is)
          (passed (λ kind. distance_of (kind_text kind) c.args.name.now) _ _ _ _ _ _
          (c.in_ok-distance.ensures ∙ ap (λ name. distance_of name c.args.name.now) c.name.ensures) so
          (sym c.is_below.ensures ∙ w.if-is_below.false))
    ]

pub returns : goal.returns
returns c =
    let none : drop c.loop-kind.kind-index kinds ≡ [] = drop_all c.loop-kind.kind-index kinds c.loop-kind-test.false in
    rw none at c.loop-kind.invariant
