use Rattle.std.proofs.Common.{ℕ, ◌-◌, ◌++◌, ◌∷◌, [], ◌∙◌, ap}
use Rattle.uc_run.proofs.RankOrder.{number_pushed, number_missing}
use Rattle.uc_run.proofs.ranks.numbers_of_points.Goals as goal
use Rattle.uc_run.proofs.ranks.numbers_of_points.Goals.{then-is_point+in_ok-push, else-is_point}

pub loop-place-preserved : goal.loop-place-preserved
loop-place-preserved c =
    let writes = c.args.slots.now in
    let bits = c.args.bits in
    let i = c.loop-place.place in
    elim c.if-is_point.branch [
      | then-is_point+in_ok-push w ↦
          rw w.numbers-is (number_pushed writes bits i c.at.result c.requires c.at.ensures c.is_point.result _ _ w.if-is_point.true c.is_point.ensures c.loop-place.invariant (w.in_ok-push.ensures.items ∙ ap (λ (n : ℕ). c.loop-place.numbers.items ++ (n - 1 - i) ∷ []) w.len-then-is_point.ensures.count))
      | else-is_point w ↦ rw w.numbers-is (number_missing writes bits i c.at.result c.requires c.at.ensures c.is_point.result _ w.if-is_point.false c.is_point.ensures c.loop-place.invariant)
    ]
