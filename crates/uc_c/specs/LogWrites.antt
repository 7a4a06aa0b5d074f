-- The writes of a log that are encoded into the caller's buffer.
use Rattle.std.specs.Prelude.{ℕ, List, [], ◌∷◌, ◌++◌}
use Rattle.std.specs.Int.{w64, to_le_bytes}
use Rattle.std.specs.List.{flat_map}
use Rattle.uc_bytes.specs.declared.op.Op.{Op}
use Rattle.uc_bytes.specs.declared.op.Op.TheVariants.{Put, Delete, Merge, DeleteRange}
use Rattle.uc_bytes.specs.declared.op_ref.OpKind.{OpKind}
use Rattle.uc_bytes.specs.declared.op_ref.OpKind.TheVariants as kinds
use Rattle.uc_bytes.specs.declared.write.Write.{Write}
use Rattle.uc_rows.specs.RowBytes.{text_bytes}

-- the tag of a kind of operation, as in a write batch (RocksDB, `dbformat.h`)
abbrev pub tag_of : OpKind → ℕ
tag_of kinds.Delete = 0
tag_of kinds.Put = 1
tag_of kinds.Merge = 2
tag_of kinds.DeleteRange = 15

-- an operation: its tag and two byte strings, the second of which is empty if the operation has only one
abbrev pub op_bytes : Op → List ℕ
op_bytes (Put key value) = tag_of kinds.Put ∷ text_bytes key ++ text_bytes value
op_bytes (Delete key) = tag_of kinds.Delete ∷ text_bytes key ++ text_bytes []
op_bytes (Merge key operand) = tag_of kinds.Merge ∷ text_bytes key ++ text_bytes operand
op_bytes (DeleteRange begin end) = tag_of kinds.DeleteRange ∷ text_bytes begin ++ text_bytes end

-- a write: its sequence, 8 bytes, low byte first, and its operation
abbrev pub write_bytes : Write → List ℕ
write_bytes w = to_le_bytes w64 w.seq ++ op_bytes w.op

-- the concatenated bytes of writes
abbrev pub writes_bytes : List Write → List ℕ
writes_bytes writes = flat_map write_bytes writes
