use Rattle.dsa_cli.proofs.words.run_workers.Goals as goal
use Rattle.std.proofs.Common.{Err, ap}

pub returns-in-Err-clause-told : goal.returns-in-Err-clause-told
returns-in-Err-clause-told g c one =
    (c.in-Err.fault, c.in-Err.ensures.nothing, λ e. c.in-Err.ensures.refused (ap Err e), c.tell_reader.ensures.line)
