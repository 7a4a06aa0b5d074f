use Rattle.std.proofs.Common.{rules, ltb}
use Rattle.std.proofs.lemmas.Fn.{always_returns_same}
use Rattle.uc_compact.proofs.Judged.{falling_by}
use Rattle.uc_compact.proofs.checking.points_fall.Goals as goal

pub returns : goal.returns
returns c =
    falling_by c.args.points.now c.is_sorted_by.result
    (c.is_sorted_by.ensures.cases (λ x y. ltb y.seq x.seq) (always_returns_same _ _ _ (λ a r f called. search rules)))
