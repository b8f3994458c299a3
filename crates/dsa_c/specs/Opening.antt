-- What opening a device does.
use Rattle.std.specs.Prelude.{◌≡◌, ℕ, ◌+◌, ◌*◌, not, cond, List, [], ◌∷◌, find, Option, None, Some, option_map}
use Rattle.dsa_base.specs.Rows.{first_row}
use Rattle.dsa_regs.specs.{declared.Caps.{Caps}, Caps.{check_caps, each_of, cell_count, list_count}}
use Rattle.dsa_device.specs.declared.faults.MakeFault.{MakeFault}
use Rattle.dsa_device.specs.declared.faults.MakeFault.TheVariants.{BadCaps, BadCapacity, BadStore, OutOfMemory}
use Rattle.dsa_device.specs.Running.{running_at_first}
use Rattle.dsa_device.specs.Made.{opening_table, opening_fault}
use Rattle.dsa_c.specs.{declared.opening.DeviceCaps.{DeviceCaps}, Place.{HeldDevice}}
use Rattle.dsa_c.specs.declared.numbers.TheConstants.{OPENED, BAD_CAPACITY, BAD_STORE, OUT_OF_MEMORY, ALREADY_OPEN}
use Rattle.dsa_c.specs.declared.numbers.TheConstants.{BAD_QUEUES, BAD_GROUPS, BAD_ENGINES, BAD_TOTAL_SIZE}
use Rattle.dsa_c.specs.declared.numbers.TheConstants.{BAD_READ_BUFFERS, BAD_SLOTS, BAD_MAX_BATCH_SHIFT}
use Rattle.dsa_c.specs.declared.numbers.TheConstants.{BAD_MAX_XFER_SHIFT}

abbrev pub caps_from_c : DeviceCaps → Caps
caps_from_c caps = record {
  queues = caps.queues;
  groups = caps.groups;
  engines = caps.engines;
  total_size = caps.total_size;
  read_buffers = caps.read_buffers;
  slots = caps.slots;
  max_batch_shift = caps.max_batch_shift;
  max_xfer_shift = caps.max_xfer_shift;
}

abbrev pub caps_for_c : Caps → DeviceCaps
caps_for_c caps = record {
  queues = caps.queues;
  groups = caps.groups;
  engines = caps.engines;
  total_size = caps.total_size;
  read_buffers = caps.read_buffers;
  slots = caps.slots;
  max_batch_shift = caps.max_batch_shift;
  max_xfer_shift = caps.max_xfer_shift;
}

-- how many of something a device of these capabilities has, none where there is no such device
abbrev pub count_of_caps : (Caps → ℕ) → Caps → ℕ
count_of_caps count caps = cond (check_caps caps) (count caps) 0

-- for each capability, in the order of the fields: the number that says that it is wrong, and the smallest device with
-- this one capability of these
abbrev pub each_alone : Caps → List (ℕ × Caps)
each_alone caps =
    (BAD_QUEUES, record (each_of 1) { queues = caps.queues })
    ∷ (BAD_GROUPS, record (each_of 1) { groups = caps.groups })
    ∷ (BAD_ENGINES, record (each_of 1) { engines = caps.engines })
    ∷ (BAD_TOTAL_SIZE, record (each_of 1) { total_size = caps.total_size })
    ∷ (BAD_READ_BUFFERS, record (each_of 1) { read_buffers = caps.read_buffers })
    ∷ (BAD_SLOTS, record (each_of 1) { slots = caps.slots })
    ∷ (BAD_MAX_BATCH_SHIFT, record (each_of 1) { max_batch_shift = caps.max_batch_shift })
    ∷ (BAD_MAX_XFER_SHIFT, record (each_of 1) { max_xfer_shift = caps.max_xfer_shift })
    ∷ []

-- the number of the first capability that is wrong: with it the smallest device is refused
abbrev pub first_wrong : Caps → Option ℕ
first_wrong caps = option_map (λ row. row.0) (find (λ row. not (check_caps row.1)) (each_alone caps))

-- the number of a fault that kept a device from being opened; wrong capabilities have that of the first of them
abbrev pub opening_number : Caps → MakeFault → Option ℕ
opening_number caps BadCaps = first_wrong caps
opening_number caps BadCapacity = Some BAD_CAPACITY
opening_number caps BadStore = Some BAD_STORE
opening_number caps OutOfMemory = Some OUT_OF_MEMORY

-- after an opening that ended with this number, where there was no device: an opened one, or none for the first fault
-- that stands, or for want of memory where none does
abbrev pub IsOpened : Caps → ℕ → ℕ → HeldDevice → Type 0
IsOpened caps capacity number None = Some number ≡ opening_number caps (opening_fault caps capacity)
IsOpened caps capacity number (Some machine) =
    (number ≡ OPENED) × ((first_row (opening_table caps capacity) ≡ None)
    × (machine.device ≡ running_at_first caps capacity))

-- a device that is open stays as it is, and the number says so
abbrev pub IsOpening : HeldDevice → Caps → ℕ → ℕ → HeldDevice → Type 0
IsOpening None caps capacity number after = IsOpened caps capacity number after
IsOpening (Some machine) caps capacity number after = (number ≡ ALREADY_OPEN) × (after ≡ Some machine)

-- the bytes of a device with its store and its book, where nothing keeps it from being opened: a
-- store has one list more than the device, for its free cells
abbrev pub bytes_taken : Caps → ℕ → Option MakeFault → ℕ
bytes_taken caps capacity None = 52 * cell_count caps + 20 * (list_count caps + 1) + 72 * capacity + 3832
bytes_taken caps capacity (Some fault) = 0
