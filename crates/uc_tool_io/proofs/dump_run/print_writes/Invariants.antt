use Rattle.std.proofs.Common.{◌∷◌, map}
use Rattle.uc_tool_io.specs.LogLines.{write_line}
use Rattle.uc_tool_io.proofs.Printing.{GoesOn}
use Rattle.uc_tool_io.proofs.dump_run.print_writes.Given as goal

abbrev pub invariant-loop-write : goal.invariant-loop-write
invariant-loop-write g l = GoesOn (map write_line l.fn.writes) (l.lines.items ∷ map write_line l.write-iterator) (g.W.Write.contents l.fn.writer) (g.W.Write.contents l.writer)
