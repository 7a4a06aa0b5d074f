-- How a walk against the order of points is held.
use Rattle.std.specs.Prelude.{◌≡◌, ◌≤◌, length}
use Rattle.uc_run.specs.BackCursors.{point_before}
use Rattle.uc_run.specs.Cursors.{Standing}
use Rattle.uc_run.specs.declared.back_cursor.BackCursor.TheInside.{Inside}

abbrev pub standing : Inside → Standing
standing c = record { run = c.run.now; place = c.place }

-- its place is one among the points, or at their end, and the point before it is at hand
pub record IsInside (c : Inside) : Type 0 where
  pub within : c.place ≤ length c.run.now.points
  pub last : c.last ≡ point_before c.run.now.points c.place
