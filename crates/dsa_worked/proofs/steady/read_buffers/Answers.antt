use Rattle.dsa_worked.proofs.steady.read_buffers.Goals as goal
use Rattle.std.proofs.Common.{◌≤◌, ℕ, zero, suc, [], ◌∷◌, arith, lit≤, refl}
use Rattle.std.specs.Prelude.{slice_index}
use Rattle.dsa_regs.specs.Config.{group_at}
use Rattle.dsa_worked.specs.Lawful.{with_buffers}

-- group 0 uses three of three, and there is no other
within : (g : ℕ) → slice_index (3 ∷ []) g ≤ (group_at (with_buffers 9 1 3 ∷ []) g).allowed
within zero = lit≤ tt
within (suc g) = lit≤ tt

pub returns-clause-covered : goal.returns-clause-covered
returns-clause-covered c = record { lengths = refl; allowed = within; total = lit≤ tt; sum = refl }

pub returns-clause-allowed : goal.returns-clause-allowed
returns-clause-allowed c is = omega (arith, is.allowed 0)

pub returns-clause-no_group : goal.returns-clause-no_group
returns-clause-no_group c there = absurd (omega (arith, there))

pub returns-clause-too_much : goal.returns-clause-too_much
returns-clause-too_much c is = grind (arith, is (lit≤ tt) 3)

pub returns-clause-too_little : goal.returns-clause-too_little
returns-clause-too_little c is = grind (arith, is (lit≤ tt) 2)

pub returns-clause-all_kept : goal.returns-clause-all_kept
returns-clause-all_kept c = record { lengths = refl; allowed = within; total = lit≤ tt; sum = refl }
