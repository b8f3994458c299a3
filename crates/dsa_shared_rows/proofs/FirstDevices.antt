-- A device before its first step, as a lock keeps it.
use Rattle.std.proofs.Common.{◌≤◌, ◌^◌, ℕ, arith, refl}
use Rattle.dsa_regs.specs.Worked.{caps}
use Rattle.dsa_device.specs.Running.{running_at_first}
use Rattle.dsa_shared.specs.Locked.{IsUnderLock}

pub kept_at_first : (capacity : ℕ) → capacity ≤ 2 ^ 20 → IsUnderLock caps capacity (running_at_first caps capacity)
kept_at_first capacity bounded = record {
  not_anew = refl;
  replay = record { caps = refl; bounded = omega (arith, bounded); within = omega arith; legal = refl; replayed = refl };
  same_caps = refl;
  same_capacity = refl;
}
