use Rattle.dsa_chosen.proofs.laws.nothing_wanted_keeps_all.Goals as goal
use Rattle.dsa_chosen.proofs.Lines.{all-kept}

pub returns : goal.returns
returns c = all-kept
