-- Runs of a view as the bytes of files, and files whose runs are added to a store.
use Rattle.std.specs.Prelude.{◌≡◌, ◌⊎◌, ◌-◌, ℕ, ℤ, List, Option, Some, None, length, min, take, drop}
use Rattle.std.specs.List.{slice_get}
use Rattle.uc_run_entry.specs.Run.{Contents}
use Rattle.uc_run_file.specs.Files.{file_text, IsNoRun, IsNamed}
use Rattle.uc_run_file.specs.declared.run_fault.RunFault.{RunFault}
use Rattle.uc_run_file.specs.declared.run_fault.RunFault.TheVariants.{Piece, Fragment, Point}
use Rattle.uc_version_state.specs.Versions.{PlacedRun}
use Rattle.uc_live.specs.declared.add_run_error.AddRunError.{AddRunError}
use Rattle.uc_live.specs.declared.add_run_error.AddRunError.TheVariants.{Order, Busy, Full, Memory}
use Rattle.uc_live.specs.Adding.{AddsRun, RefusesRun}
use Rattle.uc_engine.specs.Engines.{Engined}
use Rattle.uc_engine.specs.EngineViews.{Viewed}
use Rattle.uc_c.specs.declared.status.TheConstants.{OK, OUT_OF_MEMORY, RUN_DAMAGED, BAD_RUN}
use Rattle.uc_c.specs.Replies.{Names}

-- the run of a view at a place, the newest at 0, if there is one
abbrev pub run_at : Viewed → ℕ → Option PlacedRun
run_at v place = slice_get v.seen.version.runs place

-- the offset of a fault; the size of the file for one that is at no piece, point or fragment
abbrev pub fault_offset : ℕ → RunFault → ℕ
fault_offset size (Piece offset) = offset
fault_offset size (Fragment offset) = offset
fault_offset size (Point offset) = offset
fault_offset size fault = size

abbrev pub AddSays : AddRunError → ℤ → Type 0
AddSays Order status = status ≡ BAD_RUN
AddSays Busy status = status ≡ BAD_RUN
AddSays Full status = status ≡ BAD_RUN
AddSays Memory status = status ≡ OUT_OF_MEMORY

module _ (status : ℤ) where
  -- the id of a run, and its range of sequences
  abbrev pub TellsRun : Option PlacedRun → ℕ → ℕ → ℕ → Type 0
  TellsRun None id low high = status ≡ BAD_RUN
  TellsRun (Some p) id low high = (status ≡ OK) × (id ≡ p.id) × (low ≡ p.run.low) × (high ≡ p.run.high)

  -- the bytes of its file are there
  abbrev pub HoldsRun : Option PlacedRun → Option (List ℕ) → Type 0
  HoldsRun None new = (status ≡ BAD_RUN) × (new ≡ None)
  HoldsRun (Some p) new = ((status ≡ OK) × (new ≡ Some (file_text p.run))) ⊎ ((status ≡ OUT_OF_MEMORY) × (new ≡ None))

  -- bytes from an offset on are copied into a buffer, as many as fit
  abbrev pub CopiesBytes : List ℕ → ℕ → List ℕ → List ℕ → ℕ → Type 0
  CopiesBytes bytes offset room room' count =
      (status ≡ OK) × (count ≡ min (length room) (length bytes - offset))
      × (take count room' ≡ take (length room) (drop offset bytes)) × (drop count room' ≡ drop count room)

-- The engine has the run of a file before all others.
pub record AddsFile (old new : Engined) (file : List ℕ) (id : ℕ) : Type 0 where
  pub run : Contents
  pub bytes : file ≡ file_text run
  pub kind : new.kind ≡ old.kind
  pub adds : AddsRun old.live new.live run id

-- The file is no run's, and has this fault.
pub record IsDamaged (file : List ℕ) (fault : RunFault) : Type 0 where
  pub no_run : IsNoRun file
  pub named : IsNamed file fault

-- The file is a run's, which the engine doesn't take.
pub record IsUnfit (e : Engined) (file : List ℕ) (status : ℤ) : Type 0 where
  pub run : Contents
  pub bytes : file ≡ file_text run
  pub why : Names AddSays status (RefusesRun e.live run)

-- Why nothing is added: the file is damaged, its run doesn't fit, or allocation failed.
abbrev pub RefusesFile : Engined → List ℕ → ℤ → ℕ → Type 0
RefusesFile e file status offset =
    ((status ≡ RUN_DAMAGED) × ((fault : RunFault) × IsDamaged file fault × (offset ≡ fault_offset (length file) fault)))
    ⊎ (IsUnfit e file status ⊎ (status ≡ OUT_OF_MEMORY))
