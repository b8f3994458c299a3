use Rattle.dsa_worked.proofs.lawful.members_in_order.Goals as goal
use Rattle.std.proofs.Common.{◌≡◌, ℕ, zero, suc, arith, refl, true, false, [], ◌∷◌}
use Rattle.std.specs.Prelude.{None}
use Rattle.dsa_book.specs.Work.{members}
use Rattle.dsa_laws.specs.WellFormed.{runs_first}
use Rattle.dsa_worked.specs.Lawful.{member_of_three, work_on_batch}

pub returns-clause-first : goal.returns-clause-first
returns-clause-first c = refl

-- only engine 0 has members
in_order : (engine : ℕ)
    → runs_first (members (work_on_batch None [] (member_of_three true ∷ member_of_three false ∷ [])) engine) ≡ true
in_order zero = refl
in_order (suc engine) = grind (arith)

pub returns-clause-in_order : goal.returns-clause-in_order
returns-clause-in_order c = in_order

pub returns-clause-not_in_order : goal.returns-clause-not_in_order
returns-clause-not_in_order c is = grind (arith, is 0)
