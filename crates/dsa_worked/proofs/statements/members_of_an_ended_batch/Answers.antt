use Rattle.dsa_worked.proofs.statements.members_of_an_ended_batch.Goals as goal
use Rattle.std.proofs.Common.{◌≤◌, ℕ, [], arith, lit≤, refl}
use Rattle.dsa_accounts.specs.BatchCounts.{HasEnded}
use Rattle.dsa_worked.specs.Statements.{two_abandoned, work_with}

-- where some are abandoned, the batch may have more members than came to an end
some_abandoned : (count : ℕ) → 3 ≤ count → HasEnded (work_with two_abandoned []) 0 count
some_abandoned count enough = record {
  all = λ none. absurd (omega (arith, none));
  most = omega (arith, enough);
  none_held = refl;
  none_aborted = refl;
}

pub returns-clause-done : goal.returns-clause-done
returns-clause-done c = record {
  all = λ none. refl;
  most = lit≤ tt;
  none_held = refl;
  none_aborted = refl;
}

pub returns-clause-abandoned : goal.returns-clause-abandoned
returns-clause-abandoned c = some_abandoned 3 (lit≤ tt)

pub returns-clause-some_not_fetched : goal.returns-clause-some_not_fetched
returns-clause-some_not_fetched c = some_abandoned 5 (lit≤ tt)

pub returns-clause-one_is_lost : goal.returns-clause-one_is_lost
returns-clause-one_is_lost c sums = omega (arith, sums.all refl)
