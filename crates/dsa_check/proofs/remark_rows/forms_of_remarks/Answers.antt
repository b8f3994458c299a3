use Rattle.dsa_check.proofs.remark_rows.forms_of_remarks.Goals as goal
use Rattle.std.proofs.Common.{refl}
use Rattle.json.specs.Print.{escape_byte, print_from}
use Rattle.dsa_scenario.specs.Worked.{digits_on_literals}

pub returns-clause-said : goal.returns-clause-said
returns-clause-said c reasons = refl

pub returns-clause-texts : goal.returns-clause-texts
unfolding print_from escape_byte digits_on_literals
returns-clause-texts c reasons = refl
