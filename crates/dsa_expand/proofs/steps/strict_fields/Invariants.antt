use Rattle.std.proofs.Common.{◌≡◌, [], ◌∷◌, Bor, List, drop, map, option_map, codes}
use Rattle.dsa_expand.specs.declared.steps.GivenName.{GivenName}
use Rattle.serde_json.specs.{Data.{string}, View.{view}}
use Rattle.dsa_scenario.specs.{Actions.{kind_text, rows_of_kind}, Fields.{row_of_field}}
use Rattle.dsa_expand.specs.{Steps.{fields_onto}, Members.{known_as, pair_of}}
use Rattle.dsa_expand.proofs.steps.strict_fields.Given as goal

abbrev pub invariant-loop-field : goal.invariant-loop-field
invariant-loop-field l =
    fields_onto (known_as (option_map (λ (g : Bor (List GivenName)). g.now) l.known)) (view l.step) (map pair_of l.members.items)
    (map row_of_field (drop l.field-index l.field-items))
    ≡ fields_onto (known_as (option_map (λ (g : Bor (List GivenName)). g.now) l.known)) (view l.step) ((codes "do", string (kind_text l.fn.kind)) ∷ [])
    (rows_of_kind l.fn.kind)
