use Rattle.dsa_chrome.proofs.slices.add_fate.Goals as goal

pub returns-in-Completed : goal.returns-in-Completed
returns-in-Completed c = rw c.in-Completed.is c.add_completed.ensures
