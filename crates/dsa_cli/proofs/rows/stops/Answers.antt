use Rattle.dsa_cli.proofs.rows.stops.Goals as goal
use Rattle.std.proofs.Common.{refl}

pub returns-clause-of_the_reader : goal.returns-clause-of_the_reader
returns-clause-of_the_reader c had left stopped = stopped.0

pub returns-clause-kept : goal.returns-clause-kept
returns-clause-kept c old new stopped = stopped.1 (λ same. cc)

pub returns-clause-cut : goal.returns-clause-cut
returns-clause-cut c old new stopped = stopped.2 refl

pub returns-clause-written : goal.returns-clause-written
returns-clause-written c = (tt, (λ other. absurd (other refl)), (λ same. tt))

pub returns-clause-not_written : goal.returns-clause-not_written
returns-clause-not_written c = (tt, (λ other. refl), (λ same. cc))
