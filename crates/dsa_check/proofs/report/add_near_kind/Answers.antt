use Rattle.dsa_check.proofs.report.add_near_kind.Goals as goal

pub returns : goal.returns
returns c = rw (← c.name.ensures) c.write.ensures.bytes
