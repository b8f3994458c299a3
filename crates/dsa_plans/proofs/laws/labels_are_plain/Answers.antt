use Rattle.dsa_plans.proofs.laws.labels_are_plain.Goals as goal
use Rattle.dsa_plans.proofs.Plain.{entries-own, acts-own}

pub returns-clause-entries : goal.returns-clause-entries
returns-clause-entries c d = entries-own d

pub returns-clause-acts : goal.returns-clause-acts
returns-clause-acts c d = acts-own d
