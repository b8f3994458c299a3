-- Steps that are stuck at no key.
use Rattle.std.proofs.Common.{◌≡◌, ℕ, List, [], ◌∷◌, ◌++◌, Option, Some, None, option_map, refl, ap}
use Rattle.std.specs.Prelude.{if◌then◌else◌, is_some, option_and_then, codes}
use Rattle.serde_json.specs.Data.{Data, string}
use Rattle.dsa_scenario.specs.declared.actions.StepKind.{StepKind}
use Rattle.dsa_scenario.specs.{Fields.{Row}, Actions.{kind_text, rows_of_kind}}
use Rattle.dsa_expand.specs.Steps.{Pair, Known, other_members, strict_at, strict_by, fields_onto}
use Rattle.dsa_expand.specs.Single.{stuck_at}

by_first : (o : Option Data) (key : List ℕ) (rest : Option (List ℕ)) (f : Data → Option (List Pair))
    → ((d : Data) → rest ≡ None → (ps : List Pair) × (f d ≡ Some ps)) → (if is_some o then rest else Some key) ≡ None
    → (ps : List Pair) × (option_and_then f o ≡ Some ps)
by_first None key rest f h none = absurd cc
by_first (Some d) key rest f h none = h d none

-- the fields of a step are all there that is stuck at no key
unstuck : (known : Known) (step : Data) (done : List Pair) (rows : List Row) → stuck_at known step rows ≡ None
    → (ps : List Pair) × (fields_onto known step done rows ≡ Some ps)
unstuck known step done [] none = (done, refl)
unstuck known step done (row ∷ rows) none =
    by_first (strict_at known step row.0) row.0 (stuck_at known step rows)
    (λ d. fields_onto known step (done ++ (row.0, d) ∷ []) rows)
    (λ d h. unstuck known step (done ++ (row.0, d) ∷ []) rows h) none

-- so such a step has a strict form
pub unstuck_is_strict : (known : Known) (kind : StepKind) (step : Data) → stuck_at known step (rows_of_kind kind) ≡ None
    → strict_by known kind step ≡ None → ⊥
unstuck_is_strict known kind step free none =
    let there = unstuck known step ((codes "do", string (kind_text kind)) ∷ []) (rows_of_kind kind) free in
    let same = ap (option_map (λ (fields : List Pair). fields ++ other_members kind step)) there.1 in
    cc
