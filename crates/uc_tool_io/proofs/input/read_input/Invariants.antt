use Rattle.std.proofs.Common.{◌≤◌, ◌<◌, length, vec_len}
use Rattle.std.specs.Io.KnownBytes.{Consumes}
use Rattle.uc_tool_io.specs.declared.input.TheConstants.{INPUT_LIMIT}
use Rattle.uc_tool_io.proofs.input.read_input.Given as goal

abbrev pub invariant-loop : goal.invariant-loop
invariant-loop g l = record {
  short : length (g.I.Gathered.bytes l.input) ≤ INPUT_LIMIT;
  some : 0 < vec_len l.chunk;
  taken : Consumes (g.R.Read.remaining l.fn.reader) (g.R.Read.remaining l.reader) (g.I.Gathered.bytes l.input);
}
