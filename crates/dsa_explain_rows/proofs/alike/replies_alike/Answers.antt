use Rattle.dsa_explain_rows.proofs.alike.replies_alike.Goals as goal
use Rattle.std.proofs.Common.{ap, arith, refl}

pub returns-clause-other_queues : goal.returns-clause-other_queues
returns-clause-other_queues c same = absurd (omega (arith, same))

pub returns-clause-one_queue : goal.returns-clause-one_queue
returns-clause-one_queue c alike = omega (arith, ap (λ ticket. ticket.name) (alike refl))

pub returns-clause-from_one_queue : goal.returns-clause-from_one_queue
returns-clause-from_one_queue c q p first second = grind (arith, first, second)

pub returns-clause-from_two_queues : goal.returns-clause-from_two_queues
returns-clause-from_two_queues c alike = omega (arith, alike 3 4 refl refl)
