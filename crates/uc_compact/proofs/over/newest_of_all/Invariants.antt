use Rattle.std.proofs.Common.{◌≡◌, leb, map, take}
use Rattle.uc_compact.proofs.Best.{best_of_all}
use Rattle.uc_compact.proofs.over.newest_of_all.Given as goal

abbrev pub invariant-loop-seqs : goal.invariant-loop-seqs
invariant-loop-seqs l = l.newest ≡ best_of_all (λ n. leb n l.at) (map (λ seqs. seqs.now) (take l.seqs-index l.lists))
