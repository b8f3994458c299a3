use Rattle.std.proofs.Common.{◌≡◌, Bor, List, drop, map, option_map}
use Rattle.dsa_expand.specs.declared.steps.GivenName.{GivenName}
use Rattle.serde_json.specs.View.{view}
use Rattle.dsa_scenario.specs.{Actions.{rows_of_kind}, Fields.{row_of_field}}
use Rattle.dsa_expand.specs.{Single.{stuck_at}, Members.{known_as}}
use Rattle.dsa_expand.proofs.single.stuck_at.Given as goal

abbrev pub invariant-loop-field : goal.invariant-loop-field
invariant-loop-field l =
    stuck_at (known_as (option_map (λ (g : Bor (List GivenName)). g.now) l.known)) (view l.step)
    (map row_of_field (drop l.field-index l.field-items))
    ≡ stuck_at (known_as (option_map (λ (g : Bor (List GivenName)). g.now) l.known)) (view l.step)
    (rows_of_kind l.fn.kind)
