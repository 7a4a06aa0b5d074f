use Rattle.std.proofs.Common.{◌≡◌, ◌≤◌, ◌++◌, length, vec_len}
use Rattle.uc_script.specs.Head.{queries_in}
use Rattle.uc_script.proofs.query_reader.read_queries.Given as goal

abbrev pub invariant-loop-queries : goal.invariant-loop-queries
invariant-loop-queries l = record {
  same : l.queries.items ++ queries_in l.rest ≡ queries_in l.fn.lines;
  few : vec_len l.queries ≤ l.count;
}

abbrev pub decreases-loop-queries : goal.decreases-loop-queries
decreases-loop-queries l = length l.rest
