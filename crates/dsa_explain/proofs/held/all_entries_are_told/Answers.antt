use Rattle.dsa_explain.proofs.held.all_entries_are_told.Goals as goal
use Rattle.dsa_explain.proofs.Holding.{all-told}

pub returns : goal.returns
returns c = λ s. all-told s.work.setup.caps 0 s.work.content
