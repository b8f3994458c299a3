use Rattle.dsa_worked.proofs.lawful.entries.Goals as goal
use Rattle.std.proofs.Common.{arith, inl, lit≤, refl}
use Rattle.dsa_worked.proofs.Bounded.{in_first}

pub returns-clause-on : goal.returns-clause-on
returns-clause-on c = in_first _ _ refl

pub returns-clause-off : goal.returns-clause-off
returns-clause-off c is = grind (arith, is 0 _ (inl refl))

pub returns-clause-pasid : goal.returns-clause-pasid
returns-clause-pasid c = in_first _ _ refl

pub returns-clause-long_pasid : goal.returns-clause-long_pasid
returns-clause-long_pasid c is = omega (arith, is 0 _ (inl refl))

pub returns-clause-lawful : goal.returns-clause-lawful
returns-clause-lawful c = record {
  placed = in_first _ _ (record {
    queue = λ low. refl;
    waiting = λ low. refl;
    running = λ past low. absurd (omega (arith, past));
    submitted = λ low. refl;
    member = λ past. absurd (omega (arith, past));
  });
  none_off = in_first _ _ refl;
  pasids = in_first _ _ refl;
}

pub returns-clause-not_placed : goal.returns-clause-not_placed
returns-clause-not_placed c is = grind (arith, (is.placed 0 _ (inl refl)).waiting (lit≤ tt))

pub returns-clause-one_off : goal.returns-clause-one_off
returns-clause-one_off c is = grind (arith, is.none_off 0 _ (inl refl))

pub returns-clause-one_too_long : goal.returns-clause-one_too_long
returns-clause-one_too_long c is = omega (arith, is.pasids 0 _ (inl refl))
