use Rattle.dsa_worked.proofs.changes.changes_that_may_not_come.Goals as goal
use Rattle.std.{proofs.Common.{arith, false}, proofs.lemmas.Bool.{and_parts}}
use Rattle.dsa_desc.specs.Descriptor.{is_fenced}

pub returns-clause-no_abort : goal.returns-clause-no_abort
returns-clause-no_abort c s' aborted = grind (arith, aborted.granted.idle)

pub returns-clause-no_reset : goal.returns-clause-no_reset
returns-clause-no_reset c s' is_reset = grind (arith, is_reset.granted.idle)

pub returns-clause-nothing_noted : goal.returns-clause-nothing_noted
returns-clause-nothing_noted c s' cleared = grind (arith, cleared.is_noted)

pub returns-clause-no_failed_batch : goal.returns-clause-no_failed_batch
returns-clause-no_failed_batch c s' abandoned =
    let failed = (and_parts (is_fenced abandoned.pair.1.desc) false abandoned.failed).1 in grind (arith, failed)

pub returns-clause-group_is_locked : goal.returns-clause-group_is_locked
returns-clause-group_is_locked c s' group = grind (arith, group.off)
