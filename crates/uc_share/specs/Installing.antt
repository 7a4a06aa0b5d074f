-- Installs of what was compacted of claimed runs.
use Rattle.std.specs.Prelude.{◌≡◌, ◌≢◌, ⊤, List, [], ◌∷◌, ◌++◌}
use mathlib.Core.List.{IsPrefix}
use Rattle.uc_oper.specs.Operation.{Operation}
use Rattle.uc_compact.specs.Inputs.{Compaction}
use Rattle.uc_version_state.specs.Versions.{PlacedRun, Stored, ids_of}
use Rattle.uc_version_state.specs.Installs.{standing}
use Rattle.uc_version_state.specs.Histories.{MayHappen}
use Rattle.uc_version_state.specs.declared.event.Event.{Event}
use Rattle.uc_version_state.specs.declared.event.Event.TheVariants.{Installed}
use Rattle.uc_version_compact.specs.Compacting.{install_for, IsInstallable, IsNotInstallable}
use Rattle.uc_version_compact.specs.declared.install_error.InstallError.{InstallError}
use Rattle.uc_version_compact.specs.declared.install_error.InstallError.TheVariants.{WrongInputs, WrongKeeps, Stale, IdsSpent, Memory}

-- the event that puts what was compacted in place of claimed runs
abbrev pub event_of : Operation → List PlacedRun → Compaction → Event
event_of m claimed made = Installed (install_for m claimed made)

-- a history that begins with another one and ends with an event
abbrev pub EndsWith : List Event → Event → List Event → Type 0
EndsWith old e new = (before : List Event) × IsPrefix old before × (new ≡ before ++ e ∷ [])

-- The version shows why the compaction isn't installed. `Memory` is returned only if nothing else is against it.
pub record ShowsRefusal (v : Stored) (claimed : List PlacedRun) (made : Compaction) (error : InstallError) : Type 0 where
  pub shown : error ≢ Memory → IsNotInstallable v claimed made error
  pub else_memory : error ≡ Memory → IsInstallable v claimed made

-- why what a claim's own runs were compacted to isn't installed: they stand no more, no id is left, or memory ran out
abbrev pub IsOwnRefusal : InstallError → Type 0
IsOwnRefusal WrongInputs = ⊥
IsOwnRefusal (WrongKeeps keep) = ⊥
IsOwnRefusal Stale = ⊤
IsOwnRefusal IdsSpent = ⊤
IsOwnRefusal Memory = ⊤

-- the claimed runs stand in the version, and what was compacted of them may be installed in their place
pub record MayInstallHere (m : Operation) (v : Stored) (claimed : List PlacedRun) (made : Compaction) : Type 0 where
  pub same : standing (ids_of claimed) v.runs ≡ claimed
  pub installable : IsInstallable v claimed made
  pub may : MayHappen m v (event_of m claimed made)
