use Rattle.std.proofs.Common.{◌≡◌, ◌≤◌, ◌++◌, ℕ, List, false, length, take}
use Rattle.uc_query_read.specs.Answers.{rows_of}
use Rattle.uc_compact.specs.Inputs.{writes_of, points_of}
use Rattle.uc_version_state.specs.Versions.{contents_of}
use Rattle.uc_query_read.specs.Ahead.{keys_ahead}
use Rattle.uc_rows.specs.Laying.{AreLaid}
use Rattle.uc_query_read.proofs.scan.lay_first_rows.Given as goal

-- there are rows so far, and then those of the keys that are ahead
abbrev pub invariant-loop-laid : goal.invariant-loop-laid
invariant-loop-laid g l =
    let m = g.O.Operator.meaning in
    let ws = writes_of (contents_of l.runs) in
    record {
      rows : List (List ℕ × List ℕ);
      laid : AreLaid rows l.fn.room l.room l.laid;
      few : length rows ≤ l.limit;
      runs : l.walk.runs ≡ contents_of l.runs;
      whole : take l.limit (rows ++ rows_of m ws l.at l.walk.keys) ≡ take l.limit (rows_of m ws l.at (keys_ahead (points_of (contents_of l.runs)) l.low false l.high));
    }

abbrev pub decreases-loop-laid : goal.decreases-loop-laid
decreases-loop-laid g l = length l.walk.keys
