use Rattle.std.proofs.Common.{◌≡◌, drop}
use Rattle.uc_version_state.specs.Picks.{collected_enough, first_picked}
use Rattle.uc_version_state.proofs.picking.size_ratio.Given as goal

abbrev pub invariant-loop-first : goal.invariant-loop-first
invariant-loop-first l =
    first_picked (collected_enough l.options) 0 l.candidates ≡ first_picked (collected_enough l.options) l.first (drop l.first l.candidates)
