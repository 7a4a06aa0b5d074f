use Rattle.std.proofs.Common.{◌≡◌, true, map, take}
use Rattle.uc_compact.proofs.Best.{best_of_all}
use Rattle.uc_compact.proofs.over.first_of_all.Given as goal

abbrev pub invariant-loop-seqs : goal.invariant-loop-seqs
invariant-loop-seqs l = l.newest ≡ best_of_all (λ _. true) (map (λ seqs. seqs.now) (take l.seqs-index l.lists))
