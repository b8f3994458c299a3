use Rattle.dsa_statement_rows.proofs.reports.lists_of_a_check.Goals as goal
use Rattle.std.proofs.Common.{◌≡◌, None, Some}

pub returns-clause-reasons : goal.returns-clause-reasons
returns-clause-reasons c old new texts is = is

pub returns-clause-warnings : goal.returns-clause-warnings
returns-clause-warnings c old new warnings is = is

pub returns-clause-nameless : goal.returns-clause-nameless
returns-clause-nameless c objects d are at = are 2 d at

pub returns-clause-no_objects : goal.returns-clause-no_objects
returns-clause-no_objects c number d at = let none : None ≡ Some d = at in absurd cc
