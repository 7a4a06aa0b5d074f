-- Writes that are laid out one by one.
use Rattle.std.proofs.Common.{◌≡◌, ◌≤◌, ℕ, List, [], ◌∷◌, ◌++◌, length, refl, arith, length-append}
use Rattle.std.specs.Int.{w64, to_le_bytes}
use Rattle.uc_bytes.specs.declared.op.Op.{Op}
use Rattle.uc_bytes.specs.declared.op.Op.TheVariants.{Put, Delete, Merge, DeleteRange}
use Rattle.uc_bytes.specs.declared.write.Write.{Write}
use Rattle.uc_batch.specs.Rising.{last_of}
use Rattle.uc_c.specs.LogWrites.{op_bytes, write_bytes}

op_takes : (front : List ℕ) (op : Op) → 1 ≤ length (front ++ op_bytes op)
op_takes front (Put key value) = simp length-append (omega arith)
op_takes front (Delete key) = simp length-append (omega arith)
op_takes front (Merge key operand) = simp length-append (omega arith)
op_takes front (DeleteRange begin end) = simp length-append (omega arith)

-- a write takes a byte or more
pub write_takes : (w : Write) → 1 ≤ length (write_bytes w)
write_takes w = op_takes (to_le_bytes w64 w.seq) w.op

-- the last sequence is that of the last write
pub last_more : (last : ℕ) (ws : List Write) (w : Write) → last_of last (ws ++ w ∷ []) ≡ w.seq
last_more last [] w = refl
last_more last (v ∷ ws) w = last_more v.seq ws w
