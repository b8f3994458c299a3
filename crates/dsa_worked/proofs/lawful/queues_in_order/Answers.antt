use Rattle.dsa_worked.proofs.lawful.queues_in_order.Goals as goal
use Rattle.std.proofs.Common.{ℕ, zero, suc, arith, lit≤, []}
use Rattle.std.specs.{Prelude.{◌∷◌}, List.{AllPairs}}
use Rattle.dsa_laws.specs.WellFormed.{IsOlder}
use Rattle.dsa_worked.specs.Lawful.{in_queue}
use Rattle.dsa_worked.proofs.Bounded.{below_one}

pub returns-clause-none : goal.returns-clause-none
returns-clause-none c queue below i j d before within = absurd (omega (arith, within))

four_before_seven : AllPairs IsOlder (in_queue 0 4 ∷ in_queue 1 7 ∷ [])
four_before_seven zero zero d before within = absurd (omega (arith, before))
four_before_seven zero (suc zero) d before within = lit≤ tt
four_before_seven zero (suc (suc j)) d before within = absurd (omega (arith, within))
four_before_seven (suc i) j d before within = absurd (omega (arith, before, within))

pub returns-clause-rising : goal.returns-clause-rising
returns-clause-rising c = below_one _ four_before_seven

pub returns-clause-falling : goal.returns-clause-falling
returns-clause-falling c is =
    omega (arith, is 0 (lit≤ tt) 1 2 (in_queue 0 0) (lit≤ tt) (lit≤ tt))

pub returns-clause-twice : goal.returns-clause-twice
returns-clause-twice c is =
    omega (arith, is 0 (lit≤ tt) 0 1 (in_queue 0 0) (lit≤ tt) (lit≤ tt))
