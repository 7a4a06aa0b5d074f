-- The place of a reader in a log's batches, seen by what is ahead of it.
use Rattle.std.specs.Prelude.{◌≡◌, ℕ, ◌+◌, ◌<◌, ◌≤◌, ◌^◌, List, [], ◌++◌, length, drop, Option, Some, None, Ok}
use Rattle.uc_bytes.specs.declared.write.Write.{Write}
use Rattle.uc_logrec.specs.Log.{Reading}
use Rattle.uc_logrec.specs.Position.{Position, ComesFirst}
use Rattle.uc_batch.specs.declared.ended.Ended.{Ended}
use Rattle.uc_batch.specs.declared.header.Header.{Header}
use Rattle.uc_batch.specs.declared.batch_reader.Advance.{Advance}
use Rattle.uc_batch.specs.declared.batch_reader.Advance.TheVariants as advance
use Rattle.uc_batch.specs.declared.batch_reader.Payload.{Payload}
use Rattle.uc_batch.specs.declared.batch_reader.Payload.TheVariants as payload
use Rattle.uc_batch.specs.declared.batch_reader.Found.{Found}
use Rattle.uc_batch.specs.declared.batch_reader.Found.TheVariants as found
use Rattle.uc_batch.specs.Batch.{batch_of, writes_in, AreCounted}
use Rattle.uc_batch.specs.Log.{batches_of, kept}
use Rattle.uc_batch.specs.Rising.{IsRising, last_of}
use Rattle.uc_batch.specs.WriteLog.{WriteLog}

-- the last sequence used, the writes of the current batch, what is ahead after it (the writes to come, and how far the
-- log is read), and an upper bound on the number of batches ahead
pub record BatchPosition : Type 0 where
  pub last : ℕ
  pub batch : List Write
  pub ahead : WriteLog
  pub left : ℕ

-- what comes before the first fault of a log, if these payloads are ahead, the first has this number and this is the
-- last sequence used
abbrev pub log_ahead : ℕ → ℕ → Reading → WriteLog
log_ahead last number ahead = kept (batches_of last number ahead.payloads) ahead.ending

-- nothing is ahead
abbrev pub nothing_ahead : Ended → WriteLog
nothing_ahead ended = record { list = []; ended = ended }

-- a batch and what is ahead of it
abbrev pub with_batch : List Write → WriteLog → WriteLog
with_batch batch ahead = record { list = batch ++ ahead.list; ended = ahead.ended }

-- The writes of this batch are the first of those ahead and rise from the last sequence used. The others stay ahead
-- after it.
pub record BatchComesFirst (old new : BatchPosition) : Type 0 where
  pub first : old.ahead ≡ with_batch new.batch new.ahead
  pub rising : IsRising old.last new.batch
  pub last : new.last ≡ last_of old.last new.batch
  pub fewer : new.left < old.left

-- The next result at a position, and the position after it: a batch, or if none is ahead, how far the log was read.
abbrev pub Advances : Advance → BatchPosition → BatchPosition → Type 0
Advances advance.Batch old new = BatchComesFirst old new
Advances (advance.Ended ended) old new = (old.ahead ≡ nothing_ahead ended) × (new.ahead ≡ old.ahead) × (new.last ≡ old.last)

-- Nothing was passed over, and the current batch is empty.
pub record StaysAt (old new : BatchPosition) : Type 0 where
  pub ahead : new.ahead ≡ old.ahead
  pub last : new.last ≡ old.last
  pub none : new.batch ≡ []

-- ---- as the reader keeps it

-- the bytes of a payload; `joined` is the buffer
abbrev pub payload_bytes : Payload → List ℕ → List ℕ
payload_bytes (payload.Whole bytes) joined = bytes.now
payload_bytes payload.Joined joined = joined

-- what is ahead, unless the end was found
abbrev pub ahead_unless : Option Ended → WriteLog → WriteLog
ahead_unless None ahead = ahead
ahead_unless (Some ended) ahead = nothing_ahead ended

-- The header is that of a validated batch.
pub record IsJudged (header : Header) (bytes : List ℕ) : Type 0 where
  pub counted : AreCounted header.count (length bytes) (drop 12 bytes)
  pub room : 0 < header.count → header.sequence + header.count ≤ 2 ^ 56

-- The next valid batch among the payloads ahead, or how far the log is read.
abbrev pub Finds : Found → List ℕ → ℕ → Position → Position → Type 0
Finds (found.Batch payload header) joined last old new =
    let bytes = payload_bytes payload joined in
    (batch_of last bytes ≡ Ok (writes_in header.sequence bytes)) × IsJudged header bytes × ComesFirst bytes old new
Finds (found.Ended ended) joined last old new = log_ahead last (old.payloads_read + 1) old.ahead ≡ nothing_ahead ended
