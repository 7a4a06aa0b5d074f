use Rattle.std.proofs.Common.{◌≡◌, map, take, option_map}
use Rattle.uc_run.specs.Heads.{next_key}
use Rattle.uc_run.proofs.heads.keys_of.Given as goal

-- the keys of the walks so far
abbrev pub invariant-loop-cursor : goal.invariant-loop-cursor
invariant-loop-cursor l = map (option_map (λ key. key.now)) l.keys.items ≡ map next_key (take l.cursor-index l.cursors)
