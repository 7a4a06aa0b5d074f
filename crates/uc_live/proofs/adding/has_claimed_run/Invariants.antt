use Rattle.std.proofs.Common.{◌≡◌, false, take}
use Rattle.std.specs.List.{list_any}
use Rattle.uc_version.specs.Owners.{is_busy}
use Rattle.uc_live.proofs.adding.has_claimed_run.Given as goal

abbrev pub invariant-loop-placed : goal.invariant-loop-placed
invariant-loop-placed g l = list_any (λ p. is_busy l.owned p.slot) (take l.placed-index l.runs) ≡ false
