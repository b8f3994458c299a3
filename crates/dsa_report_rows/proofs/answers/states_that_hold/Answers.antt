use Rattle.dsa_report_rows.proofs.answers.states_that_hold.Goals as goal
use Rattle.std.proofs.Common.{◌≡◌, arith, refl, None, Some}
use Rattle.std.proofs.lemmas.Option.{same_Some}

pub returns-clause-reached : goal.returns-clause-reached
returns-clause-reached c script first terms can = can.reached

pub returns-clause-holds : goal.returns-clause-holds
returns-clause-holds c script first terms can = can.holds

pub returns-clause-as_many : goal.returns-clause-as_many
returns-clause-as_many c = (3, (refl, omega arith))

pub returns-clause-more : goal.returns-clause-more
returns-clause-more c = (3, (refl, omega arith))

pub returns-clause-not_fewer : goal.returns-clause-not_fewer
returns-clause-not_fewer c is = let three : Some 3 ≡ Some is.0 = is.1.0 in omega (arith, is.1.1, same_Some 3 is.0 three)

pub returns-clause-not_known : goal.returns-clause-not_known
returns-clause-not_known c is = let none : None ≡ Some is.0 = is.1.0 in absurd cc
