use Rattle.std.proofs.Common.{◌≡◌, length, take, drop}
use Rattle.uc_compact.specs.Heads.{first_named}
use Rattle.uc_compact.specs.Lasting.{with_lasting}
use Rattle.uc_compact.proofs.cursor.Cursor.take_named.Given as goal

pub record Taken (l : goal.Live-loop-point) : Type 0 where
  pub taken : with_lasting l.keeps l.points.items (take (first_named l.key l.self) l.self) ≡ with_lasting l.keeps l.fn.points.items (take (first_named l.key l.fn.self) l.fn.self)
  pub left : drop (first_named l.key l.self) l.self ≡ drop (first_named l.key l.fn.self) l.fn.self

abbrev pub invariant-loop-point : goal.invariant-loop-point
invariant-loop-point l = Taken l

abbrev pub decreases-loop-point : goal.decreases-loop-point
decreases-loop-point l = length l.self
