use Rattle.dsa_worked.proofs.steady.free_cells.Goals as goal
use Rattle.std.proofs.Common.{arith, inl, inr, refl}
use Rattle.std.proofs.lemmas.Bool.Decides.{nat_tests}

pub returns-clause-second : goal.returns-clause-second
returns-clause-second c = (record { 0 = 1 }, refl)

pub returns-clause-none : goal.returns-clause-none
returns-clause-none c has = grind (arith, nat_tests, has.1)

pub returns-clause-in_the_list : goal.returns-clause-in_the_list
returns-clause-in_the_list c = inr (inl refl)

pub returns-clause-not_in_the_list : goal.returns-clause-not_in_the_list
returns-clause-not_in_the_list c (inl is) = omega (arith, is)
returns-clause-not_in_the_list c (inr (inl is)) = omega (arith, is)
returns-clause-not_in_the_list c (inr (inr none)) = none
