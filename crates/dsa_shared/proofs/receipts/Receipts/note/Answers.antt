use Rattle.dsa_shared.proofs.receipts.Receipts.note.Goals as goal
use Rattle.std.proofs.Common.{arith}
use Rattle.std.proofs.lemmas.Grind.{common_steps}

pub push_reserved-requires : goal.push_reserved-requires
push_reserved-requires = grind (arith, common_steps)

pub returns-in-Some-clause-noted : goal.returns-in-Some-clause-noted
returns-in-Some-clause-noted = grind (arith, common_steps)

pub returns-in_default-clause-noted : goal.returns-in_default-clause-noted
returns-in_default-clause-noted = grind (arith, common_steps)
