use Rattle.std.proofs.Common.{◌≡◌, ◌≤◌, length, take, drop}
use Rattle.uc_rows.specs.RowBytes.{rows_bytes}
use Rattle.uc_rows.proofs.row_buffer.count_fitting.Given as goal

abbrev pub invariant-loop-key : goal.invariant-loop-key
invariant-loop-key l = record {
  ahead : drop l.count l.fn.rows ≡ l.key-iterator;
  there : l.count ≤ length l.fn.rows;
  size : l.size ≡ length (rows_bytes (take l.count l.fn.rows));
  fit : l.size ≤ l.room;
}
