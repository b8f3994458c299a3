use Rattle.dsa_check.proofs.tables.documents_have_their_rows.Goals as goal
use Rattle.dsa_check.proofs.TableLaws.{caps_have, device_has, head_has}

pub returns : goal.returns
returns c = record { caps = caps_have; device = device_has; head = head_has }
