use Rattle.dsa_shared_rows.proofs.seats.answers_under_a_lock.Goals as goal
use Rattle.std.proofs.Common.{arith, lit≤, refl, rules}
use Rattle.dsa_regs.specs.Worked.{caps}
use Rattle.dsa_device.specs.Running.{running_at_first}
use Rattle.dsa_shared_rows.proofs.FirstDevices.{kept_at_first}

pub returns-clause-full : goal.returns-clause-full
returns-clause-full c = (running_at_first caps 0, running_at_first caps 0, kept_at_first 0 (lit≤ tt), lit≤ tt, refl)

pub returns-clause-of_none : goal.returns-clause-of_none
returns-clause-of_none c is = omega (arith, is.2.replay.bounded, is.2.same_capacity)

pub returns-clause-older : goal.returns-clause-older
returns-clause-older c is = omega (arith, is.2.replay.within, is.2.same_capacity, is.3)

pub returns-clause-other_reply : goal.returns-clause-other_reply
returns-clause-other_reply c = search rules

pub returns-clause-of_no_administrator : goal.returns-clause-of_no_administrator
returns-clause-of_no_administrator c is = omega (arith, is.answered.2.replay.bounded, is.answered.2.same_capacity)
