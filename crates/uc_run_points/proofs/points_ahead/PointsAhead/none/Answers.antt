use Rattle.std.proofs.Common.{refl}
use Rattle.uc_run_points.proofs.Walked.{at_end}
use Rattle.uc_run_points.proofs.points_ahead.PointsAhead.none.Goals as goal

pub returns : goal.returns
returns c = at_end c.new.result _ 0 refl
