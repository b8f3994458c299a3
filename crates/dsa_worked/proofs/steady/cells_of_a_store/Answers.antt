use Rattle.dsa_worked.proofs.steady.cells_of_a_store.Goals as goal
use Rattle.std.proofs.Common.{◌≡◌, ◌<◌, ◌≤◌, ℕ, zero, suc, [], ◌∷◌, Global, Vec, arith, get_or, lit≤, refl, vec_capacity}
use Rattle.std.proofs.lemmas.Bool.Decides.{nat_tests}
use Rattle.dsa_store.specs.{Content.{HeldEntry, use_count, place_count, held_count}, Plain.{spare}}
use Rattle.dsa_worked.specs.Values.{cell}

pub returns-clause-twice : goal.returns-clause-twice
unfolding use_count place_count
returns-clause-twice c is = omega (arith, is.once (cell 4))

pub returns-clause-beyond : goal.returns-clause-beyond
unfolding use_count place_count
returns-clause-beyond c is = omega (arith, is.below (cell 4) (lit≤ tt))

pub returns-clause-too_many : goal.returns-clause-too_many
unfolding held_count
returns-clause-too_many c is = omega (arith, is.room)

pub returns-clause-lost : goal.returns-clause-lost
unfolding held_count
returns-clause-lost c is = omega (arith, is.all)

pub returns-clause-in_use_and_free : goal.returns-clause-in_use_and_free
unfolding use_count place_count spare
returns-clause-in_use_and_free c is = omega (arith, is.each (cell 0))

pub returns-clause-free_beyond : goal.returns-clause-free_beyond
unfolding use_count place_count spare
returns-clause-free_beyond c is = omega (arith, is.each (cell 1))

pub returns-clause-free_twice : goal.returns-clause-free_twice
unfolding held_count
returns-clause-free_twice c is = omega (arith, is.all)

pub returns-clause-sound : goal.returns-clause-sound
unfolding use_count place_count held_count
returns-clause-sound c =
    record { once = λ cell. grind (arith, nat_tests); below = λ cell past. grind (arith, nat_tests, past); room = lit≤ tt }

pub returns-clause-full : goal.returns-clause-full
unfolding use_count place_count held_count
returns-clause-full c =
    record { once = λ cell. grind (arith, nat_tests); below = λ cell past. grind (arith, nat_tests, past); room = lit≤ tt }

pub returns-clause-each_once : goal.returns-clause-each_once
unfolding use_count place_count held_count spare
returns-clause-each_once c = record { each = λ cell. grind (arith, nat_tests); all = refl }

-- there is one list
one_list : (l : Vec HeldEntry Global) → vec_capacity l ≡ 3 → (k : ℕ) (other : Vec HeldEntry Global) → k < 1
    → 3 ≤ vec_capacity (get_or (l ∷ []) k other)
one_list l room zero other low = omega (arith, room)
one_list l room (suc k) other low = absurd (omega (arith, low))

pub returns-clause-roomy : goal.returns-clause-roomy
returns-clause-roomy c l room = one_list l room

pub returns-clause-not_roomy : goal.returns-clause-not_roomy
returns-clause-not_roomy c l room are = omega (arith, room, are 0 l (lit≤ tt))
