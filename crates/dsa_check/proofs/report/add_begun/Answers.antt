use Rattle.dsa_check.proofs.report.add_begun.Goals as goal

pub returns : goal.returns
returns c = c.write.ensures.bytes
