use Rattle.dsa_worked.proofs.lawful.limits.Goals as goal
use Rattle.std.proofs.Common.{arith, lit≤}
use Rattle.dsa_worked.proofs.Bounded.{below_one, below_two}

pub returns-clause-full : goal.returns-clause-full
returns-clause-full c = record {
  queues = below_one _ (lit≤ tt);
  slots = below_two _ (lit≤ tt) (lit≤ tt);
  members = below_two _ (lit≤ tt) (lit≤ tt);
}

pub returns-clause-no_more : goal.returns-clause-no_more
returns-clause-no_more c = (
  λ is. omega (arith, is.queues 0 (lit≤ tt)),
  λ is. omega (arith, is.slots 1 (lit≤ tt)),
  λ is. omega (arith, is.members 1 (lit≤ tt)),
)

pub returns-clause-note : goal.returns-clause-note
returns-clause-note c = record { fetched = lit≤ tt; count = lit≤ tt }

pub returns-clause-note_of_none : goal.returns-clause-note_of_none
returns-clause-note_of_none c = record { fetched = lit≤ tt; count = lit≤ tt }
