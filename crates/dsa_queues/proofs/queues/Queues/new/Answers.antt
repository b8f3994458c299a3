use Rattle.dsa_queues.proofs.queues.Queues.new.Goals as goal
use Rattle.dsa_queues.proofs.Counts.{counted-empty}

pub returns-clause-counted : goal.returns-clause-counted
returns-clause-counted c content none = counted-empty _ content none c.no_entries.ensures
