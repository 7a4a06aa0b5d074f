use Rattle.std.proofs.Common.{rules}
use Rattle.std.specs.Ordering.{is_lt}
use Rattle.std.proofs.lemmas.Fn.{always_returns_same}
use Rattle.uc_run_entry.specs.Order.{entry_cmp}
use Rattle.uc_run_entry.proofs.Sorted.{points_sorted_by}
use Rattle.uc_run_entry.proofs.checking.are_sorted.Goals as goal

pub returns : goal.returns
returns c =
    points_sorted_by c.args.points.now c.is_sorted_by.result
    (c.is_sorted_by.ensures.cases (λ x y. is_lt (entry_cmp x y)) (always_returns_same _ _ _ (λ a r f called. search rules)))
