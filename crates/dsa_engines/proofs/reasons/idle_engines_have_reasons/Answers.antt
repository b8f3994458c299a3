use Rattle.dsa_engines.proofs.reasons.idle_engines_have_reasons.Goals as goal
use Rattle.dsa_engines.proofs.TakeReasons.{idle-reasons}

pub returns : goal.returns
returns c = idle-reasons
