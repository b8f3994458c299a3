-- Read buffers: no group uses more than it may, and what each group has reserved stays at hand.
use Rattle.std.specs.Prelude.{◌≡◌, ℕ, ◌<◌, ◌≤◌, false}
use Rattle.dsa_regs.specs.{declared.Caps.{Caps}, Config.{group_at}, Buffers.{covered_count}}
use Rattle.dsa_book.specs.{State.{Work, is_off}, Work.{used, all_used}}

-- the two bounds on read buffers, while the device is not Off (profile)
pub record HasBuffers (caps : Caps) (w : Work) : Type 0 where
  -- what runs on a group's engines needs no more than the group is allowed
  pub allowed : is_off w.setup.device ≡ false → (group : ℕ) → group < caps.groups
      → used w group ≤ (group_at w.setup.groups group).allowed
  -- the device has as many as all groups use or have reserved, whichever is more in each
  pub covered : is_off w.setup.device ≡ false → covered_count w.setup.groups (all_used w) ≤ caps.read_buffers
