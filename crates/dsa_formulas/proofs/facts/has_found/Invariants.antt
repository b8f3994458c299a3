use Rattle.std.proofs.Common.{◌≡◌, get_or}
use Rattle.std.specs.List.{list_any}
use Rattle.dsa_store.specs.Content.{HeldEntry}
use Rattle.dsa_keys.specs.Key.{labelled_entry}
use Rattle.dsa_formulas.specs.Facts.{is_found_so}
use Rattle.dsa_formulas.proofs.facts.has_found.Given as goal

-- what is found is among those that are left
abbrev pub invariant-loop-entry : goal.invariant-loop-entry
invariant-loop-entry g l =
    list_any
    (λ (pair : HeldEntry). is_found_so l.label l.being (labelled_entry (λ name. get_or l.labels name 0) pair)) l.entries
    ≡ list_any
    (λ (pair : HeldEntry). is_found_so l.label l.being (labelled_entry (λ name. get_or l.labels name 0) pair))
    l.fn.entries
