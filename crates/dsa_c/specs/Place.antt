-- What lies behind a handle.
use base.Fml.{Fml, ftrue}
use base.Stored.{Coded}
use denote.RawPtr.{Ptr}
use Rattle.std.specs.{Prelude.{Option, None, Some}, Coded.{coded_option}, Box.Ownership.{box_owns}, Global.{Global}}
use Rattle.std_heap.specs.contracts.GlobalAllocator.TheImpl.{ghosts}
use Rattle.dsa_linked.specs.contracts.LinkedDevice.{the_row}

-- a machine, or none
abbrev pub HeldDevice : Type 0
HeldDevice = Option the_row.Denot

abbrev pub held_device_coded : Coded HeldDevice
held_device_coded = coded_option the_row.coded

-- where there is a machine, what a box of it owns
abbrev pub place_owns : Global → Ptr → HeldDevice → Fml
place_owns alloc at None = ftrue
place_owns alloc at (Some machine) = box_owns (ghosts.dealloc_token alloc) the_row at machine
