use Rattle.std.proofs.Common.{◌≡◌, take}
use Rattle.uc_model.specs.Meaning.{effect_on}
use Rattle.uc_oper.specs.Composition.{composed}
use Rattle.uc_memtable.specs.Frozen.{all_of}
use Rattle.uc_memtable.proofs.joining.effect_before.Given as goal

-- what the memtables before the place do, and then the effect, is what all do, and then the newer one
abbrev pub invariant-loop-place : goal.invariant-loop-place
invariant-loop-place g l =
    composed g.O.Operator.meaning (effect_on g.O.Operator.meaning (all_of (take l.place l.memtables)) l.key l.at) l.effect ≡ composed g.O.Operator.meaning (effect_on g.O.Operator.meaning (all_of l.memtables) l.key l.at) l.fn.newer
