use Rattle.std.proofs.Common.{◌≡◌, take}
use Rattle.std.specs.Option.{option_copied}
use Rattle.uc_compact.specs.NextCut.{ends_in, least_above}
use Rattle.uc_compact.proofs.fronts.next_cut.Given as goal

pub record Least (l : goal.Live-loop-front) : Type 0 where
  pub same : l.fronts ≡ l.fn.fronts
  pub least : option_copied l.least ≡ least_above l.key (ends_in (take l.front-index l.fn.fronts))

abbrev pub invariant-loop-front : goal.invariant-loop-front
invariant-loop-front l = Least l
