use Rattle.dsa_statement_rows.proofs.searches.moves_that_are_tried.Goals as goal
use Rattle.std.proofs.Common.{refl}

pub returns-clause-queue : goal.returns-clause-queue
returns-clause-queue c script walked tries offer lists offered qualified = lists.queues offer 0 3 offered refl qualified

pub returns-clause-leads : goal.returns-clause-leads
returns-clause-leads c caps script setup capacity count steps walked kept = kept.leads
