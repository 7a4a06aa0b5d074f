use Rattle.std.proofs.Common.{◌≡◌, take}
use Rattle.uc_model.specs.Meaning.{effect_on}
use Rattle.uc_compact.specs.Inputs.{writes_of}
use Rattle.uc_query_read.specs.Walks.{runs_of}
use Rattle.uc_query_read.proofs.back_walk.effect_of_each.Given as goal

-- what the runs so far do
abbrev pub invariant-loop-cursor : goal.invariant-loop-cursor
invariant-loop-cursor g l =
    l.newer ≡ effect_on g.O.Operator.meaning (writes_of (runs_of (take l.cursor-index l.cursors))) l.key l.at
