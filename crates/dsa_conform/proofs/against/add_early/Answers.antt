use Rattle.dsa_conform.proofs.against.add_early.Goals as goal

pub returns-in-Finish : goal.returns-in-Finish
returns-in-Finish g c = rw c.in-Finish.is c.add_finish_seen.ensures
