use Rattle.dsa_explain_lines.proofs.writes.add_write_reason.Goals as goal
use Rattle.std.proofs.Common.{arith}
use Rattle.std.proofs.lemmas.Grind.{common_steps}

pub returns-in-LockedQueue : goal.returns-in-LockedQueue
returns-in-LockedQueue c = rw c.in-LockedQueue.is c.add_phase.ensures

pub returns-in_ok-add_device-in-LockedSize : goal.returns-in_ok-add_device-in-LockedSize
returns-in_ok-add_device-in-LockedSize = grind (arith, common_steps)
