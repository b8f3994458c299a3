use Rattle.dsa_report_rows.proofs.answers.orders_of_findings.Goals as goal
use Rattle.std.proofs.Common.{◌≡◌, None, Some}

pub returns-clause-never : goal.returns-clause-never
returns-clause-never c parties asks first conditions finding never asked may = never 3 finding asked may

pub returns-clause-may : goal.returns-clause-may
returns-clause-may c parties asks first conditions comes = comes.may

pub returns-clause-knows : goal.returns-clause-knows
returns-clause-knows c facts came watches watch knows at = knows 1 watch at

pub returns-clause-knows_nothing_else : goal.returns-clause-knows_nothing_else
returns-clause-knows_nothing_else c facts came n watch at = let none : None ≡ Some watch = at in absurd cc
