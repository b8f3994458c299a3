use Rattle.dsa_worked.proofs.lawful.cells_and_names.Goals as goal
use Rattle.std.proofs.Common.{◌≡◌, ◌+◌, ◌<◌, ◌≤◌, ℕ, zero, suc, arith, lit≤, refl}
use Rattle.dsa_store.specs.Content.{use_count, place_count, held_count}
use Rattle.dsa_regs.specs.Caps.{cell_count}
use Rattle.dsa_laws.specs.WellFormed.{held_named, fates_named}
use Rattle.dsa_worked.specs.Lawful.{unlike, work_of_three}
use Rattle.dsa_worked.specs.Setup.{held_entry, no_op}
use Rattle.std.specs.Prelude.{[], ◌∷◌, None, false}

-- cell 1 is there once, and no other cell is
once : (n : ℕ) → use_count ((held_entry 1 5 None no_op 0 false ∷ []) ∷ []) (record { 0 = n }) ≤ 1
unfolding use_count place_count
once zero = lit≤ tt
once (suc zero) = lit≤ tt
once (suc (suc n)) = grind (arith)

inside : (n : ℕ) → cell_count unlike ≤ n → use_count ((held_entry 1 5 None no_op 0 false ∷ []) ∷ []) (record { 0 = n }) ≡ 0
unfolding use_count place_count
inside zero past = refl
inside (suc zero) past = absurd (omega (arith, past))
inside (suc (suc n)) past = grind (arith)

pub returns-clause-each_cell : goal.returns-clause-each_cell
returns-clause-each_cell c = record { once = λ cell. once cell.0; inside = λ cell. inside cell.0 }

given : (name : ℕ) → name < 3 → held_named work_of_three name + fates_named work_of_three name ≡ 1
given zero low = refl
given (suc zero) low = refl
given (suc (suc zero)) low = refl
given (suc (suc (suc name))) low = absurd (omega (arith, low))

not_given : (name : ℕ) → 3 ≤ name → held_named work_of_three name + fates_named work_of_three name ≡ 0
not_given zero past = absurd (omega (arith, past))
not_given (suc zero) past = absurd (omega (arith, past))
not_given (suc (suc zero)) past = absurd (omega (arith, past))
not_given (suc (suc (suc name))) past = grind (arith)

pub returns-clause-each_name : goal.returns-clause-each_name
unfolding held_count
returns-clause-each_name c = record { given = given; not_given = not_given; counted = refl }

pub returns-clause-one_twice : goal.returns-clause-one_twice
returns-clause-one_twice c is = omega (arith, is.given 0 (lit≤ tt))

pub returns-clause-cell_twice : goal.returns-clause-cell_twice
unfolding use_count place_count
returns-clause-cell_twice c is = omega (arith, is.once (record { 0 = 0 }))

pub returns-clause-beyond : goal.returns-clause-beyond
unfolding use_count place_count
returns-clause-beyond c is = omega (arith, is.inside (record { 0 = 30 }) (lit≤ tt))

pub returns-clause-missing : goal.returns-clause-missing
returns-clause-missing c is = omega (arith, is.given 0 (lit≤ tt))

pub returns-clause-not_given : goal.returns-clause-not_given
returns-clause-not_given c is = omega (arith, is.not_given 0 (lit≤ tt))

pub returns-clause-held_and_ended : goal.returns-clause-held_and_ended
unfolding held_count
returns-clause-held_and_ended c is = omega (arith, is.counted)
