use Rattle.dsa_shared_rows.proofs.seats.devices_under_a_lock.Goals as goal
use Rattle.std.proofs.Common.{◌≡◌, true, false, ap, arith, lit≤, refl}
use Rattle.dsa_regs.specs.{declared.Caps.{Caps}, Worked.{caps}}
use Rattle.dsa_device.specs.Running.{running_at_first}
use Rattle.dsa_shared_rows.proofs.FirstDevices.{kept_at_first}

pub returns-clause-kept : goal.returns-clause-kept
returns-clause-kept c = kept_at_first 5 (lit≤ tt)

pub returns-clause-begun_anew : goal.returns-clause-begun_anew
returns-clause-begun_anew c is = let no : true ≡ false = is.not_anew in absurd cc

pub returns-clause-other_caps : goal.returns-clause-other_caps
returns-clause-other_caps c is = omega (arith, ap (λ (caps : Caps). caps.queues) is.same_caps)

pub returns-clause-read : goal.returns-clause-read
returns-clause-read c = (running_at_first caps 5, kept_at_first 5 (lit≤ tt), refl)

pub returns-clause-read_of_none : goal.returns-clause-read_of_none
returns-clause-read_of_none c is = omega (arith, is.1.replay.bounded, is.1.same_capacity)

pub returns-clause-other_value : goal.returns-clause-other_value
returns-clause-other_value c is = omega (arith, is.1.same_capacity, is.2)
