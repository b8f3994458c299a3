use Rattle.dsa_report_rows.proofs.texts.values_by_depth.Goals as goal
use Rattle.std.proofs.Common.{arith}

pub returns-clause-flat : goal.returns-clause-flat
returns-clause-flat c d is = (omega (arith, is), (omega arith, tt))

pub returns-clause-deep : goal.returns-clause-deep
returns-clause-deep c d is flat = absurd (omega (arith, flat.0, is))

pub returns-clause-later : goal.returns-clause-later
returns-clause-later c d is flat = absurd (omega (arith, flat.1.0, is))
