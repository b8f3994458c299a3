use Rattle.dsa_worked.proofs.changes.ends_of_drains.Goals as goal
use Rattle.std.proofs.Common.{◌≡◌, arith, ⊎_elim, inr, true, refl, sym, subst}
use Rattle.dsa_book.specs.Commands.{is_at_end}
use Rattle.dsa_worked.specs.Changes.{one_waits, drains_two}

pub returns-clause-over : goal.returns-clause-over
returns-clause-over c = record { active = drains_two; begun = inr refl; over = refl; after = refl }

pub returns-clause-entries_are_awaited : goal.returns-clause-entries_are_awaited
returns-clause-entries_are_awaited c s' ends = ⊎_elim
    (λ begun. let idle = begun.granted.idle in absurd cc)
    (λ is.
    let same : drains_two ≡ ends.active = cc in
    let over : is_at_end drains_two one_waits ≡ true = subst (λ a. is_at_end a one_waits ≡ true) (sym same) ends.over in
    grind (arith, over))
    ends.begun

pub returns-clause-nothing_to_wait_for : goal.returns-clause-nothing_to_wait_for
returns-clause-nothing_to_wait_for c s' waits = grind (arith, waits.held)

pub returns-clause-another_is_active : goal.returns-clause-another_is_active
returns-clause-another_is_active c s' waits = let idle = waits.begun.granted.idle in absurd cc
