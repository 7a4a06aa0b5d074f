-- One compaction of what is picked.
use Rattle.std.specs.Prelude.{◌≡◌, ◌≤◌, Bool, true, false, Option, Some, None, map, length}
use Rattle.uc_oper.specs.Operation.{Operation}
use Rattle.uc_claims.specs.declared.table.TheConstants.{MOST_SLOTS}
use Rattle.uc_version_state.specs.declared.stretch.Stretch.{Stretch}
use Rattle.uc_version_state.specs.Installs.{MayInstall, IdLeft, installed}
use Rattle.uc_version.specs.Installing.{moved_up}
use Rattle.uc_version.specs.AtOnce.{install_at}
use Rattle.uc_version.specs.Jobs as jobs
use Rattle.uc_live.specs.Lives.{Live, owner_in, has_claims}
use Rattle.uc_live.specs.declared.room_error.RoomError.{RoomError}
use Rattle.uc_live.specs.declared.room_error.RoomError.TheVariants.{IdsSpent, RunsClaimed, Memory}

-- what is compacted next, if anything is
abbrev pub next_stretch : Live → Option Stretch
next_stretch l = jobs.next_stretch (owner_in l)

-- The picked stretch was compacted and installed, which is an event that may happen, and claims after it moved up; or nothing was
-- picked, and nothing changed.
abbrev pub IsCompacted : Operation → Option Stretch → Bool → Live → Live → Type 0
IsCompacted m None compacted old new = (compacted ≡ false) × (new ≡ old)
IsCompacted m (Some s) compacted old new =
    (compacted ≡ true) × MayInstall m old.version (install_at m old.version s)
    × (new ≡ record old { version = installed (install_at m old.version s) old.version; claims = map (moved_up s.first s.count) old.claims })

-- Why a run can't be added: no id is left for it; no slot is free, and some runs are claimed; or allocation failed.
abbrev pub HasNoRoom : RoomError → Live → Type 0
HasNoRoom IdsSpent l = IdLeft l.version → ⊥
HasNoRoom RunsClaimed l = (MOST_SLOTS ≤ length l.version.runs) × (has_claims l ≡ true)
HasNoRoom Memory l = Unit {0}
