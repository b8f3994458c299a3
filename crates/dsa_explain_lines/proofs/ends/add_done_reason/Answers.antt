use Rattle.dsa_explain_lines.proofs.ends.add_done_reason.Goals as goal

pub returns-in-CountOutside : goal.returns-in-CountOutside
returns-in-CountOutside c = rw c.in-CountOutside.is c.add_outside_limit-in-CountOutside.ensures
