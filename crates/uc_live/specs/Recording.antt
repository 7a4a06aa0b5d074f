-- The bytes that are appended to a write-ahead log for a batch.
use Rattle.std.specs.Prelude.{◌≡◌, ℕ, ◌+◌, List, ◌++◌, length, None, Result, Ok}
use Rattle.uc_bytes.specs.declared.write.Write.{Write}
use Rattle.uc_logrec.specs.Log.{payload_text}
use Rattle.uc_logrec.specs.Walk.{Walks, cut_and_added}
use Rattle.uc_batch.specs.declared.error.BatchError.{BatchError}
use Rattle.uc_batch.specs.declared.ended.Ended.TheVariants.{Clean}
use Rattle.uc_batch.specs.Log.{batches_of, log_writes}
use Rattle.uc_live.specs.Writing.{numbered, next_batch}

-- a batch that is read
pub record IsRead (read : Result (List Write) BatchError) : Type 0 where
  pub writes : List Write
  pub is : read ≡ Ok writes

-- The bytes are those that a log of `len` bytes gets for the batch that comes next.
pub record IsRecorded (last len : ℕ) (batch bytes : List ℕ) : Type 0 where
  pub read : IsRead (next_batch last batch)
  pub text : bytes ≡ payload_text len (numbered last batch)

-- The log begins with batches of these writes, which end at the offset.
pub record HasBatches (log : List ℕ) (offset : ℕ) (writes : List Write) : Type 0 where
  pub payloads : List (List ℕ)
  pub walked : Walks log payloads offset
  pub read : batches_of 0 1 payloads ≡ record { writes = writes; refused = None }

-- Cut at the offset and continued by the bytes, the log has these writes and those, and ends clean. It continues after the bytes.
pub record IsRecovered (log : List ℕ) (offset : ℕ) (bytes : List ℕ) (writes more : List Write) : Type 0 where
  pub all : log_writes (cut_and_added log offset bytes) ≡ record { list = writes ++ more; ended = Clean }
  pub goes_on : HasBatches (cut_and_added log offset bytes) (offset + length bytes) (writes ++ more)
