use Rattle.std.proofs.Common.{◌≡◌, drop}
use Rattle.dsa_scenario.specs.Actions.{kind_text}
use Rattle.dsa_check.specs.Reasons.{distance_of, nearest_below, near_kind}
use Rattle.dsa_check.proofs.near.near_kind.Given as goal

abbrev pub invariant-loop-kind : goal.invariant-loop-kind
invariant-loop-kind l =
    nearest_below (λ kind. distance_of (kind_text kind) l.name) l.least l.nearest (drop l.kind-index l.kind-items)
    ≡ near_kind l.name
