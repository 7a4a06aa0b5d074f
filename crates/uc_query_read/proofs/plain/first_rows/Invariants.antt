use Rattle.std.proofs.Common.{◌≡◌, ◌≤◌, take, drop, length, ◌++◌}
use Rattle.uc_query_read.specs.Answers.{rows_of}
use Rattle.uc_query_read.proofs.plain.first_rows.Given as goal

abbrev pub invariant-loop-key : goal.invariant-loop-key
invariant-loop-key g l =
    let m = g.O.Operator.meaning in
    record {
      few : length l.rows ≤ l.limit;
      whole : take l.limit (l.rows ++ rows_of m l.writes l.at (drop l.key-index l.keys)) ≡ take l.limit (rows_of m l.writes l.at l.keys);
    }
