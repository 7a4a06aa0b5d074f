-- Writes that a live store takes.
use Rattle.std.specs.Prelude.{◌≡◌, ℕ, ◌+◌, ◌^◌, ◌<◌, ◌≤◌, ◌==◌, Bool, List, [], ◌∷◌, ◌++◌, take, drop, Result, Ok, Err, if◌then◌else◌}
use Rattle.std.specs.List.{list_all}
use Rattle.std.specs.Int.{w64, to_le_bytes}
use Rattle.uc_bytes.specs.declared.op.Op.{Op}
use Rattle.uc_bytes.specs.declared.write.Write.{Write}
use Rattle.uc_oper.specs.Operation.{Operation}
use Rattle.uc_batch.specs.Batch.{batch_of}
use Rattle.uc_batch.specs.Spelling.{FitsOp}
use Rattle.uc_batch.specs.declared.error.BatchError.{BatchError}
use Rattle.uc_batch.specs.declared.error.BatchError.TheVariants.{SequenceTooLarge}
use Rattle.uc_live.specs.Lives.{Live, last}
use Rattle.uc_live.specs.Going.{GoesOn}
use Rattle.uc_live.specs.Compacting.{HasNoRoom}
use Rattle.uc_live.specs.LiveFlushes.{HasRoom, HadRoom}
use Rattle.uc_live.specs.declared.write_error.WriteError.{WriteError}
use Rattle.uc_live.specs.declared.write_error.WriteError.TheVariants.{Faulty, SequencesSpent, TooLong, NoRoom}

-- The store went on without a write more, and these wait to be committed.
abbrev pub Prepares : Operation → Live → Live → List Write → Type 0
Prepares m old new ws = GoesOn m old new [] × (new.prepared ≡ ws)

-- ---- one operation

-- the write of an operation: it has the sequence number after the last one
abbrev pub next_write : Live → Op → List Write
next_write l op = record { seq = last l + 1; op = op } ∷ []

-- The operation is prepared, while fewer writes than fill the memtables are shown.
pub record IsPrepared (m : Operation) (op : Op) (old new : Live) : Type 0 where
  pub fits : FitsOp op
  pub left : last old + 1 < 2 ^ 56
  pub prepares : Prepares m old new (next_write old op)
  pub room : HasRoom new

-- It is taken.
pub record IsWritten (m : Operation) (op : Op) (old new : Live) : Type 0 where
  pub fits : FitsOp op
  pub left : last old + 1 < 2 ^ 56
  pub goes_on : GoesOn m old new (next_write old op)
  pub none_prepared : new.prepared ≡ []
  pub room : HadRoom new (next_write old op)

-- Why it doesn't wait.
abbrev pub Refuses : Op → Live → Live → WriteError → Type 0
Refuses op old new (Faulty fault) = ⊥
Refuses op old new SequencesSpent = 2 ^ 56 ≤ last old + 1
Refuses op old new TooLong = FitsOp op → ⊥
Refuses op old new (NoRoom error) = HasNoRoom error new

-- ---- a batch

-- the bytes of a batch, with another sequence in the 8 bytes where a batch has its own (RocksDB, `write_batch.cc`)
abbrev pub with_sequence : ℕ → List ℕ → List ℕ
with_sequence seq bytes = to_le_bytes w64 seq ++ drop 8 bytes

-- its sequence is 0, as a program that builds a batch leaves it
abbrev pub is_unnumbered : List ℕ → Bool
is_unnumbered bytes = list_all (λ byte. byte == 0) (take 8 bytes)

-- the bytes of a batch that comes next: with its own sequence number, or the one after the last one
abbrev pub numbered : ℕ → List ℕ → List ℕ
numbered last bytes = if is_unnumbered bytes then with_sequence (last + 1) bytes else bytes

-- its writes, or its first fault: its sequence has to be above the last one
abbrev pub next_batch : ℕ → List ℕ → Result (List Write) BatchError
next_batch last bytes = batch_of last (numbered last bytes)

-- The writes of the batch are prepared, while fewer than fill the memtables are shown.
pub record IsPreparedAs (m : Operation) (read : Result (List Write) BatchError) (old new : Live) : Type 0 where
  pub writes : List Write
  pub is : read ≡ Ok writes
  pub prepares : Prepares m old new writes
  pub room : HasRoom new

-- The writes of the batch that comes next wait.
abbrev pub IsBatchPrepared : Operation → List ℕ → Live → Live → Type 0
IsBatchPrepared m bytes old new = IsPreparedAs m (next_batch (last old) bytes) old new

-- They are taken.
pub record IsBatchWritten (m : Operation) (bytes : List ℕ) (old new : Live) : Type 0 where
  pub writes : List Write
  pub is : next_batch (last old) bytes ≡ Ok writes
  pub goes_on : GoesOn m old new writes
  pub none_prepared : new.prepared ≡ []
  pub room : HadRoom new writes

-- Why they don't.
abbrev pub RefusesBatch : Result (List Write) BatchError → Live → WriteError → Type 0
RefusesBatch read new (Faulty fault) = read ≡ Err fault
RefusesBatch read new SequencesSpent = read ≡ Err SequenceTooLarge
RefusesBatch read new TooLong = ⊥
RefusesBatch read new (NoRoom error) = HasNoRoom error new
