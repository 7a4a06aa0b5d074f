use Rattle.std.proofs.Common.{rules}
use Rattle.std.specs.Ordering.{is_lt}
use Rattle.std.proofs.lemmas.Fn.{always_returns_same}
use Rattle.std.proofs.lemmas.List.Sorted.{ranks_by}
use Rattle.uc_run.specs.Ranks.{rank_cmp}
use Rattle.uc_run.proofs.RankOrder.{rank_total}
use Rattle.uc_run.proofs.ranks.sort_tied.Goals as goal

pub returns-then-ranks-gt1 : goal.returns-then-ranks-gt1
returns-then-ranks-gt1 c =
    let ranked = c.args.ranked.now in
    let cmp = rank_cmp ranked.slots c.args.shared ranked.bits in
    record {
      permutation = c.sort_unstable_by.ensures.permutation;
      sorted = c.sort_unstable_by.ensures.sorted (λ r s. is_lt (cmp r s)) (ranks_by (rank_total ranked.slots c.args.shared ranked.bits) (λ r. r)) (always_returns_same _ _ _ (λ a r f called. search rules));
    }
