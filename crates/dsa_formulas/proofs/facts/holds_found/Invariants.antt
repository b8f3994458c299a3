use Rattle.std.proofs.Common.{◌≡◌, false, get_or, take}
use Rattle.std.specs.List.{list_any}
use Rattle.dsa_store.specs.Content.{HeldEntry, all_held}
use Rattle.dsa_keys.specs.Key.{labelled_entry}
use Rattle.dsa_formulas.specs.Facts.{is_found_so}
use Rattle.dsa_formulas.proofs.facts.holds_found.Given as goal

-- it is not in the lists before
abbrev pub invariant-loop-number : goal.invariant-loop-number
invariant-loop-number g l =
    list_any
    (λ (pair : HeldEntry). is_found_so l.label l.being (labelled_entry (λ name. get_or l.labels name 0) pair))
    (all_held (take l.number l.device.state.work.content))
    ≡ false
