use Rattle.std.proofs.Common.{rules, ltb}
use Rattle.std.proofs.lemmas.Fn.{always_returns_same}
use Rattle.uc_run_entry.proofs.Neighbours.{falling_by}
use Rattle.uc_run_entry.proofs.falling.are_falling.Goals as goal

pub returns : goal.returns
returns c =
    falling_by c.args.seqs.now c.is_sorted_by.result
    (c.is_sorted_by.ensures.cases (λ x y. ltb y x) (always_returns_same _ _ _ (λ a r f called. search rules)))
