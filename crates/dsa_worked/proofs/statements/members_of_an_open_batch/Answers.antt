use Rattle.dsa_worked.proofs.statements.members_of_an_open_batch.Goals as goal
use Rattle.std.proofs.Common.{arith, lit≤, refl}

pub returns-clause-of_an_open_batch : goal.returns-clause-of_an_open_batch
returns-clause-of_an_open_batch c = record {
  fetched = refl;
  unclosed = λ same. refl;
  closed = λ same. grind (arith, same);
  none_aborted = refl;
}

pub returns-clause-of_a_closed_batch : goal.returns-clause-of_a_closed_batch
returns-clause-of_a_closed_batch c =
    record { fetched = refl; unclosed = λ same. grind (arith, same); closed = λ same. lit≤ tt; none_aborted = refl }

pub returns-clause-one_is_abandoned : goal.returns-clause-one_is_abandoned
returns-clause-one_is_abandoned c =
    record { fetched = refl; unclosed = λ same. grind (arith, same); closed = λ same. lit≤ tt; none_aborted = refl }

pub returns-clause-abandoned_but_not_closed : goal.returns-clause-abandoned_but_not_closed
returns-clause-abandoned_but_not_closed c sums = omega (arith, sums.unclosed refl)

pub returns-clause-closed_with_none_abandoned : goal.returns-clause-closed_with_none_abandoned
returns-clause-closed_with_none_abandoned c sums = omega (arith, sums.closed refl)
