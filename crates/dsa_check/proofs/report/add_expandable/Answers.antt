use Rattle.dsa_check.proofs.report.add_expandable.Goals as goal

pub returns : goal.returns
returns c = c.add_at_key.ensures
