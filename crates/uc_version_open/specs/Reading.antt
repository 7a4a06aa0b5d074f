-- A log that is read into a store that is being opened.
use Rattle.std.specs.Prelude.{◌≡◌, ℕ, ◌+◌, List, Option, Some, None}
use Rattle.uc_bytes.specs.declared.write.Write.{Write}
use Rattle.uc_batch.specs.declared.ended.Ended.{Ended}
use Rattle.uc_batch.specs.Position.{BatchPosition, with_batch}
use Rattle.uc_batch.specs.Rising.{IsRising, last_of}
use Rattle.uc_batch.specs.WriteLog.{WriteLog}
use Rattle.uc_run_entry.specs.Run.{Contents}
use Rattle.uc_version_state.specs.declared.options.Options.{Options}
use Rattle.uc_version_open.specs.Lending.{StandsIn}
use Rattle.uc_version_open.specs.Progress.{Progress, progress_of}

-- The store has taken the writes that were read. The others are ahead.
pub record IsTaken (options : Options) (log : WriteLog) (batches : BatchPosition) (opener : Progress) : Type 0 where
  pub writes : List Write
  pub whole : log ≡ with_batch writes batches.ahead
  pub last_is : batches.last ≡ last_of 0 writes
  pub rising : IsRising 0 writes
  pub taken : opener ≡ progress_of options writes

-- From one place to a later one the store took what was read, and the runs that it had stay where they stood.
pub record ReadsOn (old_batches : BatchPosition) (old_opener : Progress) (batches : BatchPosition) (opener : Progress) : Type 0 where
  pub taken : (options : Options) (log : WriteLog) → IsTaken options log old_batches old_opener → IsTaken options log batches opener
  pub stay : (place : ℕ) (part : List Contents) → StandsIn place part old_opener.held → StandsIn place part opener.held

-- how often there is more to read at most: none once the end was found, and else the batches that are left and the end
abbrev pub unread : Option Ended → ℕ → ℕ
unread None left = left + 1
unread (Some ended) left = 0
