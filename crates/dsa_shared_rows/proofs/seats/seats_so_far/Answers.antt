use Rattle.dsa_shared_rows.proofs.seats.seats_so_far.Goals as goal
use Rattle.std.proofs.Common.{zero, suc, List, [], ap, arith, length, refl}
use Rattle.dsa_book.specs.{declared.event.Step.{Step}}
use Rattle.dsa_shared_rows.specs.Worked.{seat_of}

pub returns-clause-at_first : goal.returns-clause-at_first
returns-clause-at_first c zero lt d = (refl, refl)
returns-clause-at_first c (suc zero) lt d = (refl, refl)
returns-clause-at_first c (suc (suc k)) lt d = absurd (omega (arith, lt))

pub returns-clause-on_the_way : goal.returns-clause-on_the_way
returns-clause-on_the_way c zero lt d = (refl, refl)
returns-clause-on_the_way c (suc zero) lt d = (refl, refl)
returns-clause-on_the_way c (suc (suc k)) lt d = absurd (omega (arith, lt))

pub returns-clause-one_too_few : goal.returns-clause-one_too_few
returns-clause-one_too_few c is = omega (arith, ap (λ (l : List Step). length l) (is 0 (omega arith) (seat_of 0 [])).1)

pub returns-clause-one_too_many : goal.returns-clause-one_too_many
returns-clause-one_too_many c is = omega (arith, ap (λ (l : List Step). length l) (is 1 (omega arith) (seat_of 0 [])).1)

pub returns-clause-not_its_own : goal.returns-clause-not_its_own
returns-clause-not_its_own c is = omega (arith, ap (λ (l : List Step). length l) (is 0 (omega arith) (seat_of 0 [])).1)

pub returns-clause-not_in_order : goal.returns-clause-not_in_order
returns-clause-not_in_order c is = omega (arith, (is 0 (omega arith) (seat_of 0 [])).0)
