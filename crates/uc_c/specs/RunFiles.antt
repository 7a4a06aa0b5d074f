-- Run files that are read piece by piece, without a store, and then added to one.
use Rattle.std.specs.Prelude.{◌≡◌, ◌⊎◌, ◌++◌, ℕ, ℤ, List, [], Option, Some, None, length, IsSomeAnd, MatchOption}
use Rattle.uc_run_entry.specs.Run.{Contents}
use Rattle.uc_run_file.specs.Files.{file_text}
use Rattle.uc_run_file.specs.HeldRunFiles.{ReadFile}
use Rattle.uc_run_file.specs.declared.run_fault.RunFault.{RunFault}
use Rattle.uc_live.specs.Adding.{AddsRun, RefusesRun}
use Rattle.uc_engine.specs.Engines.{Engined}
use Rattle.uc_c.specs.declared.status.TheConstants.{OK, OUT_OF_MEMORY, RUN_DAMAGED, BAD_RUN}
use Rattle.uc_c.specs.Replies.{Names}
use Rattle.uc_c.specs.Runs.{AddSays, IsDamaged, fault_offset}

-- A file whose run is the one of these bytes, which it has no more, and the range of sequences of that run.
pub record IsReadAs (bytes : List ℕ) (f : ReadFile) (low high : ℕ) : Type 0 where
  pub empty : f.bytes ≡ []
  pub run : Contents
  pub held : f.run ≡ Some run
  pub bytes_are : bytes ≡ file_text run
  pub low_is : low ≡ run.low
  pub high_is : high ≡ run.high

module _ (status : ℤ) where
  -- a file of no bytes is held, or nothing
  abbrev pub OpensFile : Option ReadFile → Type 0
  OpensFile new = ((status ≡ OK) × (new ≡ Some (record { bytes = []; run = None }))) ⊎ ((status ≡ OUT_OF_MEMORY) × (new ≡ None))

  -- a piece comes after the bytes of a file that isn't read yet
  abbrev pub AppendsPiece : List ℕ → ReadFile → ReadFile → Type 0
  AppendsPiece piece f f' = MatchOption f.run
      (((status ≡ OK) × (f' ≡ record { bytes = f.bytes ++ piece; run = None })) ⊎ ((status ≡ OUT_OF_MEMORY) × (f' ≡ f)))
      (λ _. (status ≡ BAD_RUN) × (f' ≡ f))

  -- the bytes are read as a run, or nothing is held any more, and the status says why
  abbrev pub ReadsBytes : List ℕ → Option ReadFile → ℕ → ℕ → ℕ → Type 0
  ReadsBytes bytes new low high offset =
      ((status ≡ OK) × IsSomeAnd new (λ f. IsReadAs bytes f low high))
      ⊎ ((new ≡ None) × (((status ≡ RUN_DAMAGED) × ((fault : RunFault) × IsDamaged bytes fault × (offset ≡ fault_offset (length bytes) fault)))
      ⊎ (status ≡ OUT_OF_MEMORY)))

  -- a file is read once
  abbrev pub ReadsFile : ReadFile → Option ReadFile → ℕ → ℕ → ℕ → Type 0
  ReadsFile f new low high offset = MatchOption f.run (ReadsBytes f.bytes new low high offset) (λ _. (status ≡ BAD_RUN) × (new ≡ Some f))

  -- nothing changes
  abbrev pub AddsNothing : Engined → Engined → Option ReadFile → Option ReadFile → Type 0
  AddsNothing e e' old new = (status ≡ BAD_RUN) × (e' ≡ e) × (new ≡ old)

  -- the run goes to the engine, before all others, or is freed
  abbrev pub AddsItsRun : Engined → Engined → Contents → Option ReadFile → ℕ → Type 0
  AddsItsRun e e' run new id =
      (new ≡ None) × (((status ≡ OK) × (e'.kind ≡ e.kind) × AddsRun e.live e'.live run id) ⊎ ((e' ≡ e) × Names AddSays status (RefusesRun e.live run)))

  -- a run that was read is added
  abbrev pub AddsRead : Engined → Engined → Option ReadFile → Option ReadFile → ℕ → Type 0
  AddsRead e e' old new id = MatchOption old (AddsNothing e e' old new)
      (λ f. MatchOption f.run (AddsNothing e e' old new) (λ run. AddsItsRun e e' run new id))
