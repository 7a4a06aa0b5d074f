-- How the bytes of a run's file are held.
use Rattle.std.specs.Arc.{arc_value}
use Rattle.std.specs.Prelude.{ℕ, List, ◌++◌}
use Rattle.uc_run_points.specs.Spelling.{entries_text}
use Rattle.uc_run_file.specs.declared.run_bytes.RunBytes.TheInside.{Inside}

abbrev pub bytes_held : Inside → List ℕ
bytes_held i = entries_text (arc_value i.run).points ++ i.tail.items
