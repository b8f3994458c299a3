use Rattle.dsa_keys_rows.proofs.labels.distinct_labels.Goals as goal
use Rattle.std.proofs.Common.{arith, lit≤, refl}

pub returns-clause-one_for_all : goal.returns-clause-one_for_all
returns-clause-one_for_all c distinct = omega (arith, distinct 0 1 (lit≤ tt) (lit≤ tt) refl)

pub returns-clause-one_for_two : goal.returns-clause-one_for_two
returns-clause-one_for_two c distinct = omega (arith, distinct 0 19 (lit≤ tt) (lit≤ tt) refl)

pub returns-clause-of_the_last_name : goal.returns-clause-of_the_last_name
returns-clause-of_the_last_name c fresh = fresh 19 (lit≤ tt) refl
