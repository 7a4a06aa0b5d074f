use Rattle.std.proofs.Common.{◌<◌, sym, subst}
use Rattle.uc_claims.specs.declared.table.TheConstants.{MOST_SLOTS}
use Rattle.uc_version_state.specs.Versions.{PlacedRun}
use Rattle.uc_version_compact.proofs.BySlots.{slot_of_one}
use Rattle.uc_version_compact.proofs.candidates.candidates.Goals as goal

pub candidate-requires : goal.candidate-requires
candidate-requires c =
    subst (λ (p : PlacedRun). p.slot < MOST_SLOTS) (sym c.index-runs-place.is)
    (slot_of_one (λ slot. slot < MOST_SLOTS) c.args.runs.now c.loop-place.place c.index-runs-place.result c.requires.below c.loop-place-test.true)
