-- The plain writes of a log (RocksDB, `WALRecoveryMode`).
use Rattle.std.specs.Prelude.{◌≡◌, ℕ, ◌+◌, List, [], ◌∷◌, ◌++◌, Option, Some, None, Result, Ok, Err}
use Rattle.uc_bytes.specs.declared.write.Write.{Write}
use Rattle.uc_logrec.specs.declared.ending.Ending.{Ending}
use Rattle.uc_logrec.specs.declared.ending.Ending.TheVariants as ending
use Rattle.uc_logrec.specs.Log.{payloads_of, ending_of}
use Rattle.uc_batch.specs.declared.ended.Ended.{Ended}
use Rattle.uc_batch.specs.declared.ended.Ended.TheVariants as ended
use Rattle.uc_batch.specs.declared.error.BatchError.{BatchError}
use Rattle.uc_batch.specs.declared.mode.Mode.{Mode}
use Rattle.uc_batch.specs.declared.mode.Mode.TheVariants.{TornTail, PointInTime}
use Rattle.uc_batch.specs.declared.read_error.ReadError.{ReadError}
use Rattle.uc_batch.specs.declared.read_error.ReadError.TheVariants as errors
use Rattle.uc_batch.specs.Batch.{batch_of}
use Rattle.uc_batch.specs.Rising.{last_of}
use Rattle.uc_batch.specs.WriteLog.{WriteLog}

-- the writes of some payloads, and the number and the fault of the first invalid one
pub record Batches : Type 0 where
  pub writes : List Write
  pub refused : Option (ℕ × BatchError)

-- the writes of a payload, and those after it
abbrev pub after_batch : (ℕ → Batches) → ℕ → ℕ → Result (List Write) BatchError → Batches
after_batch go last number (Ok writes) =
    let others = go (last_of last writes) in
    record { writes = writes ++ others.writes; refused = others.refused }
after_batch go last number (Err e) = record { writes = []; refused = Some (number, e) }

-- payloads in turn, of which the first has this number; each comes after the last sequence used before it
abbrev pub batches_of : ℕ → ℕ → List (List ℕ) → Batches
batches_of last number [] = record { writes = []; refused = None }
batches_of last number (payload ∷ payloads) = after_batch (λ used. batches_of used (number + 1) payloads) last number (batch_of last payload)

-- how far a log was read, if all payloads are valid
abbrev pub ended_by : Ending → Ended
ended_by ending.Clean = ended.Clean
ended_by (ending.Torn offset) = ended.Torn offset
ended_by (ending.Fault fault offset) = ended.LogFault fault offset

-- it is read to the first invalid payload, or else to its ending
abbrev pub ended_at : Option (ℕ × BatchError) → Ending → Ended
ended_at None ending = ended_by ending
ended_at (Some refused) ending = ended.BatchFault refused.0 refused.1

-- what comes before that
abbrev pub kept : Batches → Ending → WriteLog
kept batches ending = record { list = batches.writes; ended = ended_at batches.refused ending }

-- what comes before the first fault of a log, as point-in-time recovery keeps it
abbrev pub log_writes : List ℕ → WriteLog
log_writes log = kept (batches_of 0 1 (payloads_of log)) (ending_of log)

-- a torn tail is accepted, a fault is not
abbrev pub unless_faulty : Batches → Ending → Option (ℕ × BatchError) → Result WriteLog ReadError
unless_faulty batches ending (Some refused) = Err (errors.Batch refused.0 refused.1)
unless_faulty batches (ending.Fault fault offset) None = Err (errors.Log fault offset)
unless_faulty batches ending.Clean None = Ok (record { list = batches.writes; ended = ended.Clean })
unless_faulty batches (ending.Torn offset) None = Ok (record { list = batches.writes; ended = ended.Torn offset })

abbrev pub accepted : Mode → Batches → Ending → Result WriteLog ReadError
accepted PointInTime batches ending = Ok (kept batches ending)
accepted TornTail batches ending = unless_faulty batches ending batches.refused

-- the writes of a log in a mode
abbrev pub writes_of : Mode → List ℕ → Result WriteLog ReadError
writes_of mode log = accepted mode (batches_of 0 1 (payloads_of log)) (ending_of log)

-- an error is that of reading, unless allocation failed
abbrev pub Refuses : ReadError → Result WriteLog ReadError → Type 0
Refuses errors.Memory read = Unit {0}
Refuses (errors.Batch number fault) read = read ≡ Err (errors.Batch number fault)
Refuses (errors.Log fault offset) read = read ≡ Err (errors.Log fault offset)
