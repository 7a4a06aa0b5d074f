-- Consecutive points.
use Rattle.std.specs.Prelude.{◌≡◌, ◌+◌, ◌^◌, ◌<◌, length, take, drop}
use Rattle.uc_run_points.specs.declared.point_slice.PointSlice.TheInside.{Inside}

-- the points of the slice are those after the first `begin` of all points
pub record IsSlice (s : Inside) : Type 0 where
  pub are : s.ahead ≡ take (length s.ahead) (drop s.begin s.points.now)
  pub bound : s.begin + length s.ahead < 2 ^ 63
