-- Changes and writes with borrowed byte strings.
use Rattle.std.specs.Prelude.{ℕ, List}
use Rattle.uc_bytes.specs.declared.op.Op.{Op}
use Rattle.uc_bytes.specs.declared.op.Op.TheVariants as op
use Rattle.uc_bytes.specs.declared.op_ref.OpKind.{OpKind}
use Rattle.uc_bytes.specs.declared.op_ref.OpKind.TheVariants.{Put, Delete, Merge, DeleteRange}

-- the change of this kind with these byte strings; a deletion of one key ignores the second
abbrev pub op_of : OpKind → List ℕ → List ℕ → Op
op_of Put key value = op.Put key value
op_of Delete key none = op.Delete key
op_of Merge key operand = op.Merge key operand
op_of DeleteRange begin end = op.DeleteRange begin end
