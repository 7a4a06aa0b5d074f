-- The label of a write, by which it is found.
use Rattle.std.specs.Prelude.{ℕ, Bool, true, false}
use Rattle.uc_bytes.specs.declared.op.Op.{Op}
use Rattle.uc_bytes.specs.declared.op.Op.TheVariants.{Put, Delete, Merge, DeleteRange}
use Rattle.uc_bytes.specs.declared.write.Write.{Write}
use Rattle.uc_run.specs.KeyHash.{key_hash}

-- whether a change deletes a range
abbrev pub is_range : Op → Bool
is_range (Put key value) = false
is_range (Delete key) = false
is_range (Merge key operand) = false
is_range (DeleteRange begin end) = true

-- the hash of the key that a change names; all range deletions share a label
abbrev pub label_of : Op → ℕ
label_of (Put key value) = key_hash key
label_of (Delete key) = key_hash key
label_of (Merge key operand) = key_hash key
label_of (DeleteRange begin end) = 0

abbrev pub write_label : Write → ℕ
write_label w = label_of w.op

abbrev pub deletes_range : Write → Bool
deletes_range w = is_range w.op
