use Rattle.dsa_shared_rows.proofs.workers.turns_in_order.Goals as goal
use Rattle.std.proofs.Common.{◌≡◌, zero, suc, [], ◌∷◌, ap, arith, length}
use Rattle.dsa_workers.specs.Calls.{InOrder}
use Rattle.dsa_shared_rows.specs.Worked.{taken_of_client}
use Rattle.std.proofs.Common.{refl}

alone : InOrder (λ before call. before ≡ []) (taken_of_client 0 ∷ [])
alone zero d lt = refl
alone (suc k) d lt = absurd (omega (arith, lt))

pub returns-clause-in_order : goal.returns-clause-in_order
returns-clause-in_order c = alone

pub returns-clause-second : goal.returns-clause-second
returns-clause-second c is = omega (arith, ap length (is 1 (taken_of_client 0) (omega arith)))

pub returns-clause-first : goal.returns-clause-first
returns-clause-first c is = grind (arith, is 0 (taken_of_client 0) (omega arith))
