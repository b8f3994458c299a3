-- Numbers that differ in each place, of which reasons are made.
use Rattle.std.specs.Prelude.{◌≡◌, ℕ, true, [], ◌∷◌, Some, None}
use Rattle.dsa_regs.specs.Config.{zero_queue}
use Rattle.dsa_store.specs.{declared.entry.Entry.{Entry}, Content.{HeldEntry}}
use Rattle.dsa_book.specs.{declared.fate.Fate.TheVariants.{Completed}, State.{Work, opening}}
use Rattle.dsa_buffers.specs.{Buffers.{Buffers}, declared.want.BufferWant.{BufferWant}}
use Rattle.dsa_engines.specs.declared.reasons.StartReason.{StartReason, TheVariants.{Fence}}
use Rattle.dsa_worked.specs.{Setup.{batch, drain, held_entry, row}, Lawful.{with_buffers}}
use Rattle.dsa_worked.specs.Uneven.{many_queues, small_queue}

-- a Drain in progress, with the name of the batch of two
abbrev pub drain_three : HeldEntry
drain_three = held_entry 1 3 None drain 0 true

-- a batch of nine with name 7, of queue 2
abbrev pub batch_seven : Entry
batch_seven = (held_entry 1 7 None (batch 9) 2 true).1

-- of many queues the third alone is written; a member of batch 2 failed, then one of batch 7
abbrev pub with_failures : Work
with_failures = record (opening many_queues).work {
  setup = record (opening many_queues).work.setup { configs = zero_queue ∷ zero_queue ∷ small_queue ∷ [] };
  fates = row 3 (Some 2) (Completed 0x03) ∷ row 8 (Some 7) (Completed 0x13) ∷ row 9 (Some 7) (Completed 0x01) ∷ [];
}

-- two groups that use 5 and 6 of 12 read buffers, and may use 8 and 7
abbrev pub two_groups : Buffers
two_groups = record { total = 12; groups = with_buffers 1 8 8 ∷ with_buffers 2 3 7 ∷ []; used = 5 ∷ 6 ∷ [] }

-- 4 more for the second
abbrev pub want_in_two_groups : BufferWant
want_in_two_groups = record { group = 1; asked = 4; used = 6; allowed = 7; buffers = 12; in_use = 11; kept = 3 }

-- a want of group 1, each other number of which is the number of no group
abbrev pub unlike_want : BufferWant
unlike_want = record { group = 1; asked = 4; used = 5; allowed = 6; buffers = 7; in_use = 8; kept = 9 }

-- no other block is told as this one is
abbrev pub IsToldAlone : {Block Reason : Type 0} → (Block → Reason) → Block → Type 0
IsToldAlone {Block} told block = (other : Block) → told other ≡ told block → other ≡ block

-- whatever block is told as a fence, its member waits for the entry of this name
abbrev pub FencesWaitFor : {Block : Type 0} → (Block → StartReason) → ℕ → Type 0
FencesWaitFor {Block} told name = (block : Block) (member waits_for : ℕ)
    → told block ≡ Fence member waits_for → waits_for ≡ name
