-- Members of a batch, counted after worked histories.
use Rattle.std.specs.Prelude.{ℕ, List, [], ◌∷◌, Option, option_map}
use Rattle.dsa_book.specs.{declared.event.Step.{Step}, State.{State}}
use Rattle.dsa_accounts.specs.BatchCounts.{members_done, members_abandoned, members_aborted, members_held}
use Rattle.dsa_worked.specs.Setup.{state_after}

-- how many members of this batch are done, abandoned, aborted and held after them
abbrev pub members_after : List Step → ℕ → Option (List ℕ)
members_after steps batch =
    option_map (λ (s : State). members_done s.work batch ∷ members_abandoned s.work batch ∷
    members_aborted s.work batch ∷ members_held s.work batch ∷ []) (state_after steps)
