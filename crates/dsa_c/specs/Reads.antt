-- What a read writes for C.
use Rattle.std.specs.Prelude.{◌≡◌, ℕ, Bool, List, Option, None, Some, nat_lt, option_map, unwrap_or}
use Rattle.dsa_base.specs.Rows.{passes, when}
use Rattle.dsa_regs.specs.declared.Phase.{Phase, TheVariants.{Off, On, Stopping}}
use Rattle.dsa_regs.specs.declared.{QueueConfig.{QueueConfig}, GroupConfig.{GroupConfig}}
use Rattle.dsa_regs.specs.declared.layout.ListUse.{ListUse, TheVariants.{Queue, Progress, Members}}
use Rattle.dsa_store.specs.{declared.entry.Cell.{Cell}, Content.{HeldEntry, chain, entry_of}}
use Rattle.dsa_book.specs.Work.{in_progress, members}
use Rattle.dsa_book.specs.declared.note.BatchNote.{BatchNote}
use Rattle.dsa_device.specs.Running.{Running}
use Rattle.dsa_c.specs.declared.steps.{DeviceQueue.{DeviceQueue}, DeviceGroup.{DeviceGroup}}
use Rattle.dsa_c.specs.declared.standing.{DeviceEntry.{DeviceEntry}, DeviceBatch.{DeviceBatch}}
use Rattle.dsa_c.specs.{Answers.{bit_number, parent_number}, Calls.{asked_for}, Place.{HeldDevice}}
use Rattle.dsa_c.specs.declared.numbers.TheConstants.{OFF, ON, STOPPING, NO_NUMBER}

-- 1 where there is something to read, and it is written in C's form; 0 where there is not, and nothing is written
abbrev pub IsWrittenForC : {X Y : Type 0} → (X → Y) → Option X → ℕ → Y → Y → Type 0
IsWrittenForC form None said before after = (said ≡ 0) × (after ≡ before)
IsWrittenForC form (Some x) said before after = (said ≡ 1) × (after ≡ form x)

-- a read of what the device says, where there is one, that writes it so; the device stays as it was
abbrev pub IsReadForC
    : {X Y : Type 0} → (X → Y) → (Running → Option X) → HeldDevice → ℕ → Y → Y → HeldDevice → Type 0
IsReadForC form f held said before after held_after =
    IsWrittenForC form (asked_for f held) said before after × (held_after ≡ held)

-- whether there is a device behind the handle, and it passes
abbrev pub bit_asked : (Running → Bool) → HeldDevice → ℕ
bit_asked test before = bit_number (passes (λ machine. test machine.device) before)

-- the number of 32 bits that the device behind a handle says, where there is one and it is not silent
abbrev pub number_asked : (Running → Option ℕ) → HeldDevice → ℕ
number_asked f before = unwrap_or (asked_for f before) NO_NUMBER

-- the entries of a list, where the device has such a list
abbrev pub entries_of_list_for_c : Running → ListUse → Option (List HeldEntry)
entries_of_list_for_c d (Queue queue) = when (nat_lt queue d.caps.queues) (chain d.state.work.content queue)
entries_of_list_for_c d (Progress engine) = when (nat_lt engine d.caps.engines) (in_progress d.state.work engine)
entries_of_list_for_c d (Members engine) = when (nat_lt engine d.caps.engines) (members d.state.work engine)

-- the entry that the cell holds, with the cell
abbrev pub entry_in_cell : Cell → Running → Option HeldEntry
entry_in_cell cell d = option_map (λ entry. (cell, entry)) (entry_of d.state.work.content cell)

abbrev pub phase_number : Phase → ℕ
phase_number Off = OFF
phase_number On = ON
phase_number Stopping = STOPPING

abbrev pub queue_for_c : QueueConfig → DeviceQueue
queue_for_c config = record {
  size = config.size;
  threshold = config.threshold;
  dedicated = bit_number config.dedicated;
  priority = config.priority;
  max_batch_shift = config.max_batch_shift;
  max_xfer_shift = config.max_xfer_shift;
  pasid = config.pasid;
}

abbrev pub group_for_c : GroupConfig → DeviceGroup
group_for_c g =
    record { queues = g.queues; engines = g.engines; reserved = g.reserved; allowed = g.allowed }

abbrev pub entry_for_c : HeldEntry → DeviceEntry
entry_for_c pair = record {
  name = pair.1.name;
  cell = pair.0.0;
  parent = parent_number pair.1.parent;
  pasid = pair.1.desc.pasid;
  flags = pair.1.desc.flags;
  size = pair.1.desc.size;
  queue = pair.1.queue;
  operation = pair.1.desc.op;
  running = bit_number pair.1.running;
}

abbrev pub batch_for_c : BatchNote → DeviceBatch
batch_for_c note = record {
  name = note.batch;
  count = note.count;
  fetched = note.fetched;
  failed = bit_number note.failed;
  closed = bit_number note.closed;
}
