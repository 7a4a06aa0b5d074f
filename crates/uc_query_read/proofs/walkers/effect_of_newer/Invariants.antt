use Rattle.std.proofs.Common.{◌≡◌, take}
use Rattle.uc_model.specs.Meaning.{effect_on}
use Rattle.uc_compact.specs.Inputs.{writes_of}
use Rattle.uc_query_read.specs.Walks.{runs_of}
use Rattle.uc_query_read.proofs.walkers.effect_of_newer.Given as goal

-- what the runs so far do
abbrev pub invariant-loop-place : goal.invariant-loop-place
invariant-loop-place g l =
    l.newer ≡ effect_on g.O.Operator.meaning (writes_of (runs_of (take l.place l.cursors))) l.least.key.now l.at
