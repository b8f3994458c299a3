-- What the device behind a handle is saved to, and what is loaded into a handle.
use Rattle.std.specs.Prelude.{◌≡◌, ◌⊎◌, ◌≤◌, ◌<◌, ℕ, true, false, cond, List, length, None, Some}
use Rattle.dsa_device.specs.Running.{Running, IsReplay}
use Rattle.dsa_saved.specs.Saved.{saved_bytes, IsReadAgain}
use Rattle.dsa_saved.specs.Faults.{IsLoadFault}
use Rattle.dsa_saved.specs.declared.faults.LoadFault.{LoadFault}
use Rattle.dsa_saved.specs.declared.faults.LoadFault.TheVariants.{Truncated, BadMagic, BadVersion, BadLength}
use Rattle.dsa_saved.specs.declared.faults.LoadFault.TheVariants.{BadChecksum, BadCaps, BadCapacity, OutOfMemory}
use Rattle.dsa_saved.specs.declared.faults.LoadFault.TheVariants.{BadEvent, BadStep}
use Rattle.dsa_c.specs.{Buffers.{with_items}, Place.{HeldDevice}}
use Rattle.dsa_c.specs.declared.numbers.TheConstants.{NO_MEMORY, NOT_SAVED, LOADED, LOAD_TRUNCATED, LOAD_BAD_MAGIC}
use Rattle.dsa_c.specs.declared.numbers.TheConstants.{LOAD_BAD_VERSION, LOAD_BAD_LENGTH, LOAD_BAD_CHECKSUM}
use Rattle.dsa_c.specs.declared.numbers.TheConstants.{LOAD_BAD_CAPS, LOAD_BAD_CAPACITY, LOAD_OUT_OF_MEMORY}
use Rattle.dsa_c.specs.declared.numbers.TheConstants.{LOAD_BAD_EVENT, LOAD_BAD_STEP, LOAD_ALREADY_OPEN}

-- ---- saving

-- how many bytes the device behind a handle is saved to, none where there is no device, and where its history began
-- anew: then it is not saved
abbrev pub bytes_saved : HeldDevice → ℕ
bytes_saved None = 0
bytes_saved (Some machine) = cond machine.device.anew 0 (length (saved_bytes machine.device))

-- all the bytes of a device are in the first places, and say the device again
pub record IsSavedIn (d : Running) (number : ℕ) (before after : List ℕ) : Type 0 where
  pub room : length (saved_bytes d) ≤ length before
  pub size : number ≡ length (saved_bytes d)
  pub bytes : after ≡ with_items before (saved_bytes d)
  pub read : IsReadAgain d

-- why none of them is where the history is the whole past: the places are too few, and the number says how many are
-- wanted; or memory was refused
abbrev pub IsKeptOut : Running → ℕ → ℕ → Type 0
IsKeptOut d number room =
    ((room < length (saved_bytes d)) × (number ≡ length (saved_bytes d)))
    ⊎ ((length (saved_bytes d) ≤ room) × (number ≡ NO_MEMORY))

-- the same of each device: one whose history began anew is not saved, and the number says so
abbrev pub IsUnsaved : Running → ℕ → ℕ → Type 0
IsUnsaved d number room =
    ((d.anew ≡ true) × (number ≡ NOT_SAVED)) ⊎ ((d.anew ≡ false) × IsKeptOut d number room)

-- the device behind a handle is saved in these places, or nothing is written; a handle of no device has no bytes
abbrev pub IsSaving : HeldDevice → ℕ → List ℕ → List ℕ → Type 0
IsSaving None number before after = (number ≡ 0) × (after ≡ before)
IsSaving (Some machine) number before after =
    IsSavedIn machine.device number before after
    ⊎ (IsUnsaved machine.device number (length before) × (after ≡ before))

-- ---- loading

-- the number of a fault that kept a device from being loaded
abbrev pub load_number : LoadFault → ℕ
load_number Truncated = LOAD_TRUNCATED
load_number BadMagic = LOAD_BAD_MAGIC
load_number BadVersion = LOAD_BAD_VERSION
load_number BadLength = LOAD_BAD_LENGTH
load_number BadChecksum = LOAD_BAD_CHECKSUM
load_number BadCaps = LOAD_BAD_CAPS
load_number BadCapacity = LOAD_BAD_CAPACITY
load_number OutOfMemory = LOAD_OUT_OF_MEMORY
load_number (BadEvent number) = LOAD_BAD_EVENT
load_number (BadStep number) = LOAD_BAD_STEP

-- a device saves to these bytes, and is each device that does; its history did not begin anew, and has all its room
pub record IsDeviceOf (bytes : List ℕ) (loaded : Running) : Type 0 where
  pub saved : saved_bytes loaded ≡ bytes
  pub whole : loaded.anew ≡ false
  pub room : loaded.room ≡ loaded.capacity
  pub only : (d : Running) → IsReplay d → IsReadAgain d → saved_bytes d ≡ bytes → loaded ≡ d

-- after a loading that ended with this number, where there was no device: that of the bytes, or none for their first
-- fault
abbrev pub IsLoaded : List ℕ → ℕ → HeldDevice → Type 0
IsLoaded bytes number None = (fault : LoadFault) × ((number ≡ load_number fault) × IsLoadFault fault bytes)
IsLoaded bytes number (Some machine) = (number ≡ LOADED) × IsDeviceOf bytes machine.device

-- a device that is open stays as it is, and the number says so
abbrev pub IsLoading : HeldDevice → List ℕ → ℕ → HeldDevice → Type 0
IsLoading None bytes number after = IsLoaded bytes number after
IsLoading (Some machine) bytes number after = (number ≡ LOAD_ALREADY_OPEN) × (after ≡ Some machine)
