-- How large a memtable is, in bytes as its owner counts them.
use Rattle.std.specs.Prelude.{ℕ, ◌+◌, ◌-◌, ◌^◌, List, length, min, if◌then◌else◌}
use Rattle.std.specs.List.{sum_by}
use Rattle.std.specs.Ordering.{is_lt}
use Rattle.uc_bytes.specs.Bytes.{bytes_cmp}
use Rattle.uc_bytes.specs.declared.op.Op.{Op}
use Rattle.uc_bytes.specs.declared.op.Op.TheVariants.{Put, Delete, Merge, DeleteRange}
use Rattle.uc_bytes.specs.declared.write.Write.{Write}

-- the lengths of key and value, and 8 for the sequence number; a range without keys counts as 0
abbrev pub op_size : Op → ℕ
op_size (Put key value) = length key + length value + 8
op_size (Delete key) = length key + 8
op_size (Merge key operand) = length key + length operand + 8
op_size (DeleteRange begin end) = if is_lt (bytes_cmp begin end) then length begin + length end + 8 else 0

abbrev pub write_size : Write → ℕ
write_size w = op_size w.op

-- the sum, at most 2^64 - 1
abbrev pub memtable_size : List Write → ℕ
memtable_size writes = min (sum_by write_size writes) (2 ^ 64 - 1)
