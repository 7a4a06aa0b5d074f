use Rattle.std.proofs.Common.{◌≡◌, take}
use Rattle.uc_model.specs.Meaning.{effect_on}
use Rattle.uc_compact.specs.Inputs.{writes_of}
use Rattle.uc_version_state.specs.Versions.{contents_of}
use Rattle.uc_query_read.proofs.lookup.effect_of_runs.Given as goal

abbrev pub invariant-loop-placed : goal.invariant-loop-placed
invariant-loop-placed g l =
    l.newer ≡ effect_on g.O.Operator.meaning (writes_of (contents_of (take l.placed-index l.runs))) l.key l.at
