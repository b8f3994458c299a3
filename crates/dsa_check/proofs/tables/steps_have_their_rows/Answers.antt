use Rattle.dsa_check.proofs.tables.steps_have_their_rows.Goals as goal
use Rattle.dsa_check.proofs.TableLaws.{action_has}

pub returns : goal.returns
returns c = action_has
