use Rattle.std.proofs.Common.{◌≡◌, drop}
use Rattle.uc_version_state.specs.Picks.{unclaimed_at_most, first_picked}
use Rattle.uc_version_state.proofs.picking.first_unclaimed.Given as goal

abbrev pub invariant-loop-first : goal.invariant-loop-first
invariant-loop-first l =
    first_picked (unclaimed_at_most l.most) 0 l.candidates ≡ first_picked (unclaimed_at_most l.most) l.first (drop l.first l.candidates)
