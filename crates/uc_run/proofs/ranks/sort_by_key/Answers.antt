use Rattle.std.proofs.Common.{◌∙◌, ap, sym, length, subst}
use Rattle.std.proofs.lemmas.List.{length-map}
use Rattle.std.proofs.lemmas.List.Sorted.{length_permutation}
use Rattle.uc_run.specs.Ranks.{first_key, points_of, ranked_at}
use Rattle.uc_run.proofs.RankOrder.{AreRanked, are_ranked, ranked_is_by_key}
use Rattle.uc_run.proofs.ranks.sort_by_key.Goals as goal

pub returns : goal.returns
returns c =
    let writes = c.args.ranked.now.slots in
    let bits = c.args.ranked.now.bits in
    let old = c.args.ranks.now in
    let shared = c.shared_by-shared.result in
    let ranks = c.rank_each.new.ranks in
    let sorted = c.sort_ranks.new.ranks in
    let points = points_of writes bits old in
    let held : AreRanked writes bits shared points ranks = subst (AreRanked writes bits shared points) (sym c.rank_each.ensures) (are_ranked writes bits shared old c.shared_by-shared.ensures.bytes) in
    record {
      order = ranked_is_by_key writes bits shared (first_key points) points c.shared_by-shared.ensures.front ranks held c.requires sorted c.sort_ranks.ensures.permutation c.sort_ranks.ensures.sorted;
      len = length_permutation ranks sorted c.sort_ranks.ensures.permutation ∙ ap length c.rank_each.ensures ∙ length-map old (ranked_at writes shared bits);
    }
