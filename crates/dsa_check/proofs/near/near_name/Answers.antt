use Rattle.dsa_check.proofs.near.near_name.Goals as goal
use Rattle.std.proofs.Common.{◌∙◌, refl, sym}
use Rattle.dsa_check.specs.{Reasons.{distance_of}, Warnings.{near_name}}
use Rattle.dsa_check.proofs.Warned.{name_taken, name_passed}
use Rattle.dsa_check.proofs.near.near_name.Goals.{then-is_below, else-is_below}

pub loop-name-init : goal.loop-name-init
unfolding near_name
loop-name-init c = refl

pub loop-name-preserved : goal.loop-name-preserved
loop-name-preserved c =
    elim c.if-is_below.branch [
      | then-is_below w ↦
          rw (w.near-is, w.least-is, w.unwrap_or-least.ensures)
          (name_taken (λ name. distance_of name c.args.key.now) c.args.names.now c.loop-name.name-index _ _ _ _ _
          c.loop-name-test.true c.in_ok-distance.ensures c.loop-name.invariant
          (sym c.is_below.ensures ∙ w.if-is_below.true))
      | else-is_below w ↦
          rw (w.near-is, w.least-is)
          (name_passed (λ name. distance_of name c.args.key.now) c.args.names.now c.loop-name.name-index _ _ _ _ _
          c.loop-name-test.true c.in_ok-distance.ensures c.loop-name.invariant
          (sym c.is_below.ensures ∙ w.if-is_below.false))
    ]
