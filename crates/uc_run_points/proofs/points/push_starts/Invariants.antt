use Rattle.std.proofs.Common.{◌≡◌, ◌++◌, List, length, take, drop}
use mathlib.Core.List.{IsPrefix}
use Rattle.uc_run_entry.specs.declared.entry.Entry.{Entry}
use Rattle.uc_run_points.specs.Spelling.{entries_text, entries_from}
use Rattle.uc_run_points.specs.Starts.{AreStarts}
use Rattle.uc_run_points.proofs.points.push_starts.Given as goal

abbrev pub invariant-loop-number : goal.invariant-loop-number
invariant-loop-number l = record {
  rest : l.rest ≡ entries_text (drop l.number (entries_from l.count l.bytes));
  starts : (es : List Entry) → length es ≡ l.place → length (entries_text es) ≡ l.offset → AreStarts es l.fn.starts.items → AreStarts (es ++ take l.number (entries_from l.count l.bytes)) l.starts.items;
  begins : IsPrefix l.fn.starts.items l.starts.items;
}
