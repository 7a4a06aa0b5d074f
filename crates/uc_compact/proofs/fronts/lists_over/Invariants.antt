use Rattle.std.proofs.Common.{◌≡◌, map, take}
use Rattle.uc_compact.specs.Pieces.{AreOver}
use Rattle.uc_compact.proofs.fronts.lists_over.Given as goal

pub record Gone (l : goal.Live-loop-front) : Type 0 where
  pub same : l.fronts ≡ l.fn.fronts
  pub over : AreOver l.key (take l.front-index l.fn.fronts) (map (λ seqs. seqs.now) l.lists.items)

abbrev pub invariant-loop-front : goal.invariant-loop-front
invariant-loop-front l = Gone l
