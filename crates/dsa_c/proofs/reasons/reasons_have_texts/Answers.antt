use Rattle.dsa_c.proofs.reasons.reasons_have_texts.Goals as goal
use Rattle.dsa_c.proofs.Telling.{law}

pub returns : goal.returns
returns c = law
