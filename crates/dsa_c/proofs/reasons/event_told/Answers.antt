use Rattle.dsa_c.proofs.reasons.event_told.Goals as goal

pub returns-in-Finish : goal.returns-in-Finish
returns-in-Finish g c = rw c.in-Finish.is c.end_told.ensures
