use Rattle.dsa_scenario.proofs.lines.add_fate.Goals as goal

pub returns-in-Completed : goal.returns-in-Completed
returns-in-Completed c = rw c.in-Completed.is c.add_ended.ensures
