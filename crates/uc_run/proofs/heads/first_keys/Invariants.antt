use Rattle.std.proofs.Common.{◌≡◌, map, take, option_map}
use Rattle.uc_run.specs.Heads.{first_key}
use Rattle.uc_run.proofs.heads.first_keys.Given as goal

-- the keys of the runs so far
abbrev pub invariant-loop-points : goal.invariant-loop-points
invariant-loop-points l = map (option_map (λ key. key.now)) l.keys.items ≡ map first_key (take l.points-index l.runs)
