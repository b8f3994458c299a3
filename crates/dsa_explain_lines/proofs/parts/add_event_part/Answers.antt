use Rattle.dsa_explain_lines.proofs.parts.add_event_part.Goals as goal

pub returns-in-Finish : goal.returns-in-Finish
returns-in-Finish g c = rw c.in-Finish.is c.add_finish_part.ensures
