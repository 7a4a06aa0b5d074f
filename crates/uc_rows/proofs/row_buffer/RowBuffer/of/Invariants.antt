use Rattle.std.proofs.Common.{◌≡◌, map, take}
use Rattle.uc_rows.proofs.row_buffer.RowBuffer.of.Given as goal

abbrev pub invariant-loop-key : goal.invariant-loop-key
invariant-loop-key l = l.rows ≡ map (λ p. (p.0.now, p.1.now)) (take l.key-index l.pairs)
