use Rattle.std.proofs.Common.{◌≡◌, ◌++◌, length, take}
use Rattle.std.specs.Int.{w32, w64, to_le_bytes}
use Rattle.std.specs.List.{flat_map}
use Rattle.uc_batch.specs.Spelling.{op_text}
use Rattle.uc_batch.proofs.writing.write_batch.Given as goal

abbrev pub invariant-loop-op : goal.invariant-loop-op
invariant-loop-op l = l.out.items ≡ to_le_bytes w64 l.seq ++ to_le_bytes w32 (length l.ops) ++ flat_map op_text (take l.op-index l.ops)
