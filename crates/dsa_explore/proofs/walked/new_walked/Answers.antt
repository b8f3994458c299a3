use Rattle.dsa_explore.proofs.walked.new_walked.Goals as goal
use Rattle.dsa_explore.proofs.Begun.{has-device}

pub returns-in_ok-walked-in-Ok-clause-some : goal.returns-in_ok-walked-in-Ok-clause-some
returns-in_ok-walked-in-Ok-clause-some c = has-device c.args.plan.now.caps c.args.capacity c.in-Ok.ensures.no_fault
