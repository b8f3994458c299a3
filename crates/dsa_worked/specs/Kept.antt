-- What the layers of the device keep beside the lists, at chosen states of two groups and two engines.
use Rattle.std.specs.Prelude.{ℕ, true, false, [], ◌∷◌, Some, None}
use Rattle.dsa_regs.specs.Worked.{groups}
use Rattle.dsa_store.specs.{declared.entry.Entry.{Entry}, Content.{HeldEntry}}
use Rattle.dsa_buffers.specs.Buffers.{Buffers}
use Rattle.dsa_engines.specs.Engines.{EnginesState}
use Rattle.dsa_worked.specs.{Setup.{no_op, move, batch, held_entry}, Values.{a_note}}

-- 16 read buffers, of which 8 and 7 are in use
abbrev pub two_groups_in_use : Buffers
two_groups_in_use = record { total = 16; groups = groups; used = 8 ∷ 7 ∷ [] }

-- two engines, each of a group of its own and with a batch
abbrev pub engines_in_use : EnginesState
engines_in_use = record {
  notes = Some a_note ∷ Some a_note ∷ [];
  buffers = two_groups_in_use;
  homes = Some 0 ∷ Some 1 ∷ [];
}

-- a batch of two of queue 0, in progress
abbrev pub a_batch : Entry
a_batch = (held_entry 0 0 None (batch 2) 0 true).1

-- a Move of two pages of queue 0, in progress
abbrev pub a_move : Entry
a_move = (held_entry 0 0 None (move 8192) 0 true).1

-- an entry of this name under this PASID
abbrev pub of_pasid : ℕ → ℕ → HeldEntry
of_pasid name pasid = held_entry name name None (record no_op { pasid = pasid }) 0 false
