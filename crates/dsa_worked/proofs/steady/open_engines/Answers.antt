use Rattle.dsa_worked.proofs.steady.open_engines.Goals as goal
use Rattle.std.proofs.Common.{arith, lit≤, refl}
use Rattle.dsa_worked.specs.Values.{of_cell}

pub returns-clause-last : goal.returns-clause-last
returns-clause-last c = record { engine = lit≤ tt; home = refl; pair = lit≤ tt }

pub returns-clause-holds : goal.returns-clause-holds
returns-clause-holds c = (lit≤ tt, lit≤ tt)

pub returns-clause-all_wait : goal.returns-clause-all_wait
returns-clause-all_wait c = ((λ waits. refl), ((λ waits. refl), tt))

pub returns-clause-all_run : goal.returns-clause-all_run
returns-clause-all_run c = ((λ waits. absurd (grind (arith, waits))), ((λ waits. refl), tt))

pub returns-clause-one_runs : goal.returns-clause-one_runs
returns-clause-one_runs c = ((λ waits. refl), ((λ waits. refl), ((λ waits. refl), tt)))

pub returns-clause-runs_after : goal.returns-clause-runs_after
returns-clause-runs_after c is = grind (arith, is.0 refl)

pub returns-clause-runs_later : goal.returns-clause-runs_later
returns-clause-runs_later c is = grind (arith, is.1.0 refl)

pub returns-clause-none_is_older : goal.returns-clause-none_is_older
returns-clause-none_is_older c is = omega (arith, is 0 1 (of_cell 1) (lit≤ tt) (lit≤ tt))

pub returns-clause-none_twice : goal.returns-clause-none_twice
returns-clause-none_twice c is = omega (arith, is 0 1 (of_cell 1) (lit≤ tt) (lit≤ tt))

pub returns-clause-one : goal.returns-clause-one
returns-clause-one c i j d a b = absurd (omega (arith, a, b))
