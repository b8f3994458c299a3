use Rattle.dsa_check.proofs.report.add_no_digit.Goals as goal
use Rattle.dsa_check.proofs.Texts.{behind}

pub returns : goal.returns
returns c = behind _ _ _ _ _ _ c.in_ok-add_key.ensures c.write.ensures.bytes
