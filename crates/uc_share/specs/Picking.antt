-- The stretch that is picked in a pinned version.
use Rattle.std.specs.Prelude.{◌≡◌, Bool, true, false, List, Option, All, slice_index_or}
use Rattle.uc_version_state.specs.declared.options.Options.{Options}
use Rattle.uc_version_state.specs.declared.stretch.Stretch.{Stretch}
use Rattle.uc_version_state.specs.Versions.{Stored}
use Rattle.uc_version_state.specs.Picks.{picked}
use Rattle.uc_version_compact.specs.Picking.{candidates_of}

-- a flag for each slot, by a seat that looks whether it is taken: to a whole seat none is
abbrev pub AreFlags : Bool → List Bool → Type 0
AreFlags whole flags = whole ≡ true → All (λ flag. flag ≡ false) flags

-- what is picked of a version with a seat: the runs whose slots it finds taken are claimed already
abbrev pub IsPick : Options → Bool → Stored → Option Stretch → Type 0
IsPick options whole v pick =
    (flags : List Bool) × AreFlags whole flags × (pick ≡ picked options (candidates_of v (λ slot. slice_index_or flags slot false)))
