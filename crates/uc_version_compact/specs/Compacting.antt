-- Compactions of stretches, and their installs in place of claimed runs, whoever claims them.
use Rattle.std.specs.Prelude.{◌≡◌, ℕ, ◌+◌, ◌-◌, ◌^◌, ◌==◌, Some, List, fold, length, min}
use Rattle.uc_oper.specs.Operation.{Operation}
use Rattle.uc_run_entry.specs.Run.{Contents}
use Rattle.uc_run_entry.specs.Size.{size_of}
use Rattle.uc_compact.specs.Inputs.{Compaction}
use Rattle.uc_compact.specs.Output.{output_of}
use Rattle.uc_version_state.specs.declared.stretch.Stretch.{Stretch}
use Rattle.uc_version_state.specs.Versions.{PlacedRun, Stored, contents_of, ids_of}
use Rattle.uc_version_state.specs.Installs.{Install, KeepsKnown, NothingBelow, IdLeft, part_of, behind, terms_of}
use Rattle.uc_version_state.specs.Refusals.{AreInPlace, AreReplaceable, first_unknown}
use Rattle.uc_version_state.specs.declared.refusal.Refusal.{Refusal}
use Rattle.uc_version_state.specs.declared.refusal.Refusal.TheVariants as refusal
use Rattle.uc_version_compact.specs.declared.install_error.InstallError.{InstallError}
use Rattle.uc_version_compact.specs.declared.install_error.InstallError.TheVariants.{WrongInputs, WrongKeeps, Stale, IdsSpent, Memory}

-- the runs of a stretch
abbrev pub runs_at : Stored → Stretch → List PlacedRun
runs_at v s = part_of s.first s.count v.runs

-- the compaction of a stretch: under the version's keeps, and with the oldest run if it is the last
abbrev pub compaction_at : Stored → Stretch → Compaction
compaction_at v s = record { inputs = contents_of (runs_at v s); keeps = v.keeps; oldest = s.first + s.count == length v.runs }

-- how many bytes runs have together, at most 2^64 - 1
abbrev pub size_of_runs : List Contents → ℕ
size_of_runs runs = fold (λ sum run. min (sum + size_of run) (2 ^ 64 - 1)) 0 runs

-- the install of a compaction of claimed runs
abbrev pub install_for : Operation → List PlacedRun → Compaction → Install
install_for m claimed made = record { ids = ids_of claimed; keeps = made.keeps; oldest = made.oldest; output = output_of m made }

-- When a compaction may be installed in place of claimed runs: it was made of them, and the present version has runs
-- with their ids that may be replaced.
pub record IsInstallable (present : Stored) (claimed : List PlacedRun) (made : Compaction) : Type 0 where
  pub inputs : made.inputs ≡ contents_of claimed
  pub there : AreReplaceable present (ids_of claimed) (terms_of made)

-- it was made of the claimed runs, and for the oldest run only if nothing comes after them
pub record Fits (present : Stored) (claimed : List PlacedRun) (made : Compaction) : Type 0 where
  pub inputs : made.inputs ≡ contents_of claimed
  pub oldest : NothingBelow (behind (ids_of claimed) present.runs) (terms_of made)

-- why it may not be: the first of these that holds
abbrev pub IsNotInstallable : Stored → List PlacedRun → Compaction → InstallError → Type 0
IsNotInstallable v claimed made WrongInputs = ¬ Fits v claimed made
IsNotInstallable v claimed made (WrongKeeps keep) = Fits v claimed made × (first_unknown (terms_of made) v.keeps ≡ Some keep)
IsNotInstallable v claimed made Stale = Fits v claimed made × KeepsKnown v.keeps (terms_of made) × ¬ AreInPlace v (ids_of claimed)
IsNotInstallable v claimed made IdsSpent =
    Fits v claimed made × KeepsKnown v.keeps (terms_of made) × AreInPlace v (ids_of claimed) × ¬ IdLeft v
IsNotInstallable v claimed made Memory = ⊥

-- the error for a version that can't install a compaction
abbrev pub error_of : Refusal → InstallError
error_of refusal.OlderBehind = WrongInputs
error_of (refusal.UnknownKeep keep) = WrongKeeps keep
error_of refusal.NotInPlace = Stale
error_of refusal.IdsSpent = IdsSpent
