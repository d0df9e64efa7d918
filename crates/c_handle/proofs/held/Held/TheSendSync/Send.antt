-- A handle may cross threads where what it holds may.
use Rattle.std.specs.Prelude.{Option, None, Some}
use mir.Raw.{raw}
use base.Shift.{Keyless}
use denote.Memory.{lone}
use denote.RawPtr.{Ptr}
use denote.Struct.Struct.{exits_of}
use denote.Struct.Owning.{shape, fields, to}
use denote.Param.Send.{IsSend, AllSend, owning_send, struct_send, sendable}
use Rattle.std.proofs.Crossing as heap
use Rattle.std.specs.Global.{Global}
use Rattle.std_alloc.proofs.SendSync.{quiet, lies}
use Rattle.std_heap.proofs.Global.TheSendSync as handle
use Rattle.c_handle.specs.Owned.{owned}
use Rattle.c_handle.specs.contracts.kept.Kept as kept
use Rattle.c_handle.proofs.Crossing.{kept_send}
use Rattle.c_handle.specs.contracts.held.Held.{the_row, the_type}

owned_send : (a : Global) (p : Ptr) (v : Option kept.the_row.Denot) → Keyless (owned a p v)
owned_send a p None = tt
owned_send a p (Some x) = (lies kept.the_row kept_send p x, heap.frees.frees a (raw (lone kept.the_row.mir)) p)

pub send : IsSend the_row
send =
    let all : AllSend (fields the_type) = (search sendable, (handle.the_field_send, tt)) in
    owning_send the_type all (λ d. owned_send d.alloc d.at d.value)
    (λ k. quiet (to the_type) (exits_of k (fields the_type)) ((struct_send (shape the_type) all).leaving k))
