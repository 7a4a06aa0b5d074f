-- Representation of points.
use Rattle.std.specs.Prelude.{List}
use Rattle.uc_run_entry.specs.declared.entry.Entry.{Entry}
use Rattle.uc_run_points.specs.Spelling.{entries_from, AreSpelled}
use Rattle.uc_run_points.specs.Starts.{AreStarts}
use Rattle.uc_run_points.specs.declared.points.Points.TheInside.{Inside}

abbrev pub entries_of : Inside → List Entry
entries_of p = entries_from p.count p.bytes.items

-- the bytes encode the entries, and the offset of each quarter is listed
pub record AreHeld (p : Inside) : Type 0 where
  pub spelled : AreSpelled p.count p.bytes.items
  pub starts : AreStarts (entries_from p.count p.bytes.items) p.starts.items
