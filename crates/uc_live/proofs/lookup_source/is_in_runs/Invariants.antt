use Rattle.std.proofs.Common.{◌≡◌, false, take}
use Rattle.std.specs.List.{list_any}
use Rattle.uc_live.proofs.SeenEffects.{is_seen_in}
use Rattle.uc_live.proofs.lookup_source.is_in_runs.Given as goal

abbrev pub invariant-loop-placed : goal.invariant-loop-placed
invariant-loop-placed g l = list_any (is_seen_in (λ p. p.run) l.key l.at) (take l.placed-index l.runs) ≡ false
