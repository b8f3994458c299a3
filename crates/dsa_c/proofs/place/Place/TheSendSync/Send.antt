-- A machine may go to another thread, and so may its place.
use Rattle.dsa_linked.specs.contracts.LinkedDevice as LinkedDevice
use Rattle.dsa_linked.proofs.LinkedDevice.TheSendSync.{the_send as machine}
use Rattle.dsa_c.specs.contracts.place.Place.{the_row, the_type}
use mir.Raw.{raw}
use base.Shift.{Keyless}
use denote.Memory.{lone}
use denote.RawPtr.{Ptr}
use denote.Struct.Struct.{exits_of}
use denote.Struct.Owning.{shape, fields, to}
use denote.Param.Send.{IsSend, AllSend, owning_send, struct_send, sendable}
use Rattle.std.proofs.Crossing as heap
use Rattle.std.specs.{Prelude.{None, Some}, Global.{Global}}
use Rattle.std_alloc.proofs.SendSync.{quiet, lies}
use Rattle.std_heap.proofs.Global.TheSendSync as handle
use Rattle.dsa_c.specs.Place.{HeldDevice, place_owns}

owned : (alloc : Global) (at : Ptr) (held : HeldDevice) → Keyless (place_owns alloc at held)
owned alloc at None = tt
owned alloc at (Some held) =
    (lies LinkedDevice.the_row machine at held, heap.frees.frees alloc (raw (lone LinkedDevice.the_row.mir)) at)

pub send : IsSend the_row
send =
    let all : AllSend (fields the_type) = (search sendable, (handle.the_field_send, tt)) in
    owning_send the_type all (λ d. owned d.alloc d.at d.machine)
    (λ k. quiet (to the_type) (exits_of k (fields the_type)) ((struct_send (shape the_type) all).leaving k))
