use Rattle.dsa_check.proofs.warnings.names_of.Given as goal
use Rattle.std.proofs.Common.{◌≡◌, Bor, List, ℕ, map, take}
use Rattle.dsa_scenario.specs.Fields.{row_of_field}
use Rattle.dsa_check.specs.Warnings.{names_of}

abbrev pub invariant-loop-field : goal.invariant-loop-field
invariant-loop-field l =
    map (λ (name : Bor (List ℕ)). name.now) l.names.items ≡ names_of (map row_of_field (take l.field-index l.fields))
