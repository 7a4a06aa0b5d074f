use Rattle.std.proofs.lemmas.List.Sorted.{IsNonDecreasingBy-from_sort, IsPermutation-trans}
use Rattle.uc_run.proofs.ranks.sort_ranks.Goals as goal

pub sort_ties-requires : goal.sort_ties-requires
sort_ties-requires c = IsNonDecreasingBy-from_sort (λ n. n) c.sort_unstable.new.self c.sort_unstable.ensures.sorted

pub returns-clause-permutation : goal.returns-clause-permutation
returns-clause-permutation c = IsPermutation-trans c.args.ranks.now c.sort_unstable.new.self c.sort_ties.new.ranks c.sort_unstable.ensures.permutation c.sort_ties.ensures.permutation
