use Rattle.dsa_check.proofs.remarks.add_fault.Goals as goal
use Rattle.std.proofs.Common.{◌≢◌, [], arith}
use Rattle.std.proofs.lemmas.Grind.{common_steps}
use Rattle.dsa_check.proofs.Remarked.{said_with_reasons}

pub returns-then-not-is_empty-clause-all : goal.returns-then-not-is_empty-clause-all
returns-then-not-is_empty-clause-all c =
    let some : c.args.fault.now.reasons.items ≢ [] = grind (arith, common_steps) in
    rw (said_with_reasons c.args.fault.now some) c.add_reasons.ensures.all
