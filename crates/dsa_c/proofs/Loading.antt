-- What a loading leaves in a handle that had no device.
use Rattle.std.proofs.Common.{◌≡◌, ℕ, List, None, Some, false, refl}
use Rattle.std.specs.Prelude.{is_some}
use Rattle.dsa_linked.specs.contracts.LinkedDevice.{the_row}
use Rattle.dsa_saved.specs.{Faults.{IsLoadFault}, declared.faults.LoadFault.{LoadFault}}
use Rattle.dsa_c.specs.{Place.{HeldDevice}, Saving.{IsDeviceOf, IsLoading, load_number}}

-- the fault, and the handle as it was
pub no-device : (held : HeldDevice) (bytes : List ℕ) (fault : LoadFault) → is_some held ≡ false
    → IsLoadFault fault bytes → IsLoading held bytes (load_number fault) held
no-device None bytes fault closed is = (fault, (refl, is))
no-device (Some machine) bytes fault closed is = absurd cc

-- the device of the bytes
pub device : (held after : HeldDevice) (bytes : List ℕ) (machine : the_row.Denot) → is_some held ≡ false
    → after ≡ Some machine → IsDeviceOf bytes machine.device → IsLoading held bytes 0 after
device None after bytes machine closed is of = rw is (refl, of)
device (Some other) after bytes machine closed is of = absurd cc
