use Rattle.dsa_statement_rows.proofs.searches.room_after_worlds.Goals as goal
use Rattle.std.proofs.Common.{◌≡◌, ℕ, ◌+◌, ◌<◌, inl, inr, refl, subst, ⊎_elim, arith}
use Rattle.dsa_keys.specs.Parties.{Stored}
use Rattle.dsa_statement_rows.specs.Searches.{stored_at}

pub returns-clause-room : goal.returns-clause-room
returns-clause-room c w x i = ⊎_elim
    (λ (e : stored_at 4 w ≡ x). subst (λ (z : Stored ℕ). 1_048_571 + z.level < 1_048_576) e (omega arith))
    (λ none. absurd none) i

-- there is none after level 5
none-left : 1_048_571 + 5 < 1_048_576 → ⊥
none-left room = absurd (omega (arith, room))

pub returns-clause-no_room : goal.returns-clause-no_room
returns-clause-no_room c w room = none-left (room (stored_at 5 w) (inl refl))

pub returns-clause-later : goal.returns-clause-later
returns-clause-later c w room = none-left (room (stored_at 5 w) (inr (inl refl)))
