use Rattle.dsa_explain.proofs.awaiting.waits_follow_reasons.Goals as goal
use Rattle.dsa_explain.proofs.Active.{told, kept}

pub returns-clause-told : goal.returns-clause-told
returns-clause-told c = told

pub returns-clause-kept : goal.returns-clause-kept
returns-clause-kept c = kept
