use Rattle.std.proofs.Common.{map, take, option_map}
use Rattle.uc_run.specs.Heads.{AreNumbered}
use Rattle.uc_run.proofs.heads.numbers_of.Given as goal

-- the numbers of the keys so far
abbrev pub invariant-loop-key : goal.invariant-loop-key
invariant-loop-key l = AreNumbered l.front (map (option_map (λ key. key.now)) (take l.key-index l.keys)) l.numbers.items
