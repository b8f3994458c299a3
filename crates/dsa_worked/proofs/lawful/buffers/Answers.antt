use Rattle.dsa_worked.proofs.lawful.buffers.Goals as goal
use Rattle.std.proofs.Common.{arith, lit≤, refl}
use Rattle.dsa_worked.proofs.Bounded.{below_one}

pub returns-clause-all : goal.returns-clause-all
returns-clause-all c = record { allowed = λ on. below_one _ (lit≤ tt); covered = λ on. lit≤ tt }

pub returns-clause-off : goal.returns-clause-off
returns-clause-off c = record {
  allowed = λ on. absurd (grind (arith, on));
  covered = λ on. absurd (grind (arith, on));
}

pub returns-clause-allowed : goal.returns-clause-allowed
returns-clause-allowed c is = omega (arith, is.allowed refl 0 (lit≤ tt))

pub returns-clause-kept : goal.returns-clause-kept
returns-clause-kept c is = omega (arith, is.covered refl)
