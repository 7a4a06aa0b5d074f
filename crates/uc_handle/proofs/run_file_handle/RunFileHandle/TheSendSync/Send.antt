-- The handle of a file may go to another thread if the file may.
use mir.Raw.{raw}
use base.Shift.{Keyless}
use denote.Memory.{lone}
use denote.RawPtr.{Ptr}
use denote.Struct.Struct.{exits_of}
use denote.Struct.Owning.{shape, fields, to}
use denote.Param.Send.{IsSend, AllSend, owning_send, struct_send, sendable}
use Rattle.std.proofs.Crossing as heap
use Rattle.std.proofs.alloc.Global.TheSendSync as allocator
use Rattle.std.specs.Global.{Global}
use Rattle.std.specs.Prelude.{Option, Some, None}
use Rattle.std_alloc.proofs.SendSync.{quiet, lies}
use Rattle.uc_run_file.specs.contracts.RunFile.{the_row as R}
use Rattle.uc_run_file.proofs.RunFile.TheSendSync.{the_send as run}
use Rattle.uc_handle.specs.Address.{address_owns}
use Rattle.uc_handle.specs.contracts.run_file_handle.RunFileHandle.{the_row, the_type}

owned : (a : Global) (p : Ptr) (x : Option R.Denot) → Keyless (address_owns R a p x)
owned a p None = tt
owned a p (Some x) = (lies R run p x, heap.frees.frees a (raw (lone R.mir)) p)

pub send : IsSend the_row
send =
    let all : AllSend (fields the_type) = (search sendable, (allocator.the_field_send, tt)) in
    owning_send the_type all (λ d. owned d.alloc d.at d.held)
    (λ k. quiet (to the_type) (exits_of k (fields the_type)) ((struct_send (shape the_type) all).leaving k))
