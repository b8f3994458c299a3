use Rattle.dsa_worked.proofs.lawful.places.Goals as goal
use Rattle.std.proofs.Common.{◌<◌, ◌≤◌, ℕ, arith, lit≤, refl}
use Rattle.dsa_laws.specs.WellFormed.{IsPlaced}
use Rattle.dsa_worked.specs.Lawful.{that_runs, unlike}

-- lists 1 and 2 are of what is in progress on the engines
in_progress : (list : ℕ) → 1 ≤ list → list < 3 → IsPlaced unlike list that_runs
in_progress list from below = record {
  queue = λ low. absurd (omega (arith, from, low));
  waiting = λ low. absurd (omega (arith, from, low));
  running = λ past low. refl;
  submitted = λ low. refl;
  member = λ past. absurd (omega (arith, below, past));
}

pub returns-clause-queued : goal.returns-clause-queued
returns-clause-queued c = record {
  queue = λ low. refl;
  waiting = λ low. refl;
  running = λ past low. absurd (omega (arith, past));
  submitted = λ low. refl;
  member = λ past. absurd (omega (arith, past));
}

pub returns-clause-first_engine : goal.returns-clause-first_engine
returns-clause-first_engine c = in_progress 1 (lit≤ tt) (lit≤ tt)

pub returns-clause-last_engine : goal.returns-clause-last_engine
returns-clause-last_engine c = in_progress 2 (lit≤ tt) (lit≤ tt)

pub returns-clause-first_members : goal.returns-clause-first_members
returns-clause-first_members c = record {
  queue = λ low. absurd (omega (arith, low));
  waiting = λ low. absurd (omega (arith, low));
  running = λ past low. absurd (omega (arith, low));
  submitted = λ low. absurd (omega (arith, low));
  member = λ past. refl;
}

pub returns-clause-another_queue : goal.returns-clause-another_queue
returns-clause-another_queue c is = omega (arith, is.queue (lit≤ tt))

pub returns-clause-runs_in_the_queue : goal.returns-clause-runs_in_the_queue
returns-clause-runs_in_the_queue c is = grind (arith, is.waiting (lit≤ tt))

pub returns-clause-waits_on_the_first : goal.returns-clause-waits_on_the_first
returns-clause-waits_on_the_first c is = grind (arith, is.running (lit≤ tt) (lit≤ tt))

pub returns-clause-waits_on_the_last : goal.returns-clause-waits_on_the_last
returns-clause-waits_on_the_last c is = grind (arith, is.running (lit≤ tt) (lit≤ tt))

pub returns-clause-member_in_progress : goal.returns-clause-member_in_progress
returns-clause-member_in_progress c is = grind (arith, is.submitted (lit≤ tt))

pub returns-clause-no_member : goal.returns-clause-no_member
returns-clause-no_member c is = grind (arith, is.member (lit≤ tt))
