-- The place of a reader in the payloads of a log in pieces, seen by what is ahead of it.
use Rattle.std.specs.Prelude.{◌≡◌, ◌<◌, ◌≤◌, ℕ, ◌+◌, ◌-◌, List, ◌++◌, length, take, drop, Ok}
use Rattle.uc_logrec.specs.Log.{ended, with_payload}
use Rattle.uc_logrec.specs.Position.{Position, ahead_at, ComesFirst}
use Rattle.uc_batch.specs.Batch.{batch_of, writes_in}
use Rattle.uc_batch.specs.Position.{log_ahead, nothing_ahead, IsJudged}
use Rattle.uc_batch.specs.declared.unread.Unread.{Unread}
use Rattle.uc_batch.specs.declared.payload.Payload.{Payload}
use Rattle.uc_batch.specs.declared.payload.Payload.TheVariants as payload
use Rattle.uc_batch.specs.declared.payload.Read.{Read}
use Rattle.uc_batch.specs.declared.payload.Read.TheVariants as read
use Rattle.uc_batch.specs.declared.payload_reader.Next.{Next}
use Rattle.uc_batch.specs.declared.payload_reader.Next.TheVariants as next
use Rattle.uc_batch.specs.declared.piece_reader.Found.{Found}
use Rattle.uc_batch.specs.declared.piece_reader.Found.TheVariants as found
use Rattle.uc_batch.specs.Unread.{bytes_ahead}

-- the bytes of a payload; `joined` is the buffer
abbrev pub payload_in : Payload → List ℕ → List ℕ → List ℕ
payload_in (payload.Within from to) piece joined = take (to - from) (drop from piece)
payload_in payload.Joined piece joined = joined

-- a payload lies within a piece
abbrev pub LiesIn : Payload → List ℕ → Type 0
LiesIn (payload.Within from to) piece = (from ≤ to) × (to ≤ length piece)
LiesIn payload.Joined piece = Unit {0}

-- ---- in one piece

-- A payload takes `size` bytes at a place of the log, and at an offset of the piece. Whatever follows the piece, the payload is
-- read, and then what follows.
pub record Passes (payload : Payload) (size : ℕ) (joined piece : List ℕ) (at place : ℕ) : Type 0 where
  pub some : 0 < size
  pub within : at + size ≤ length piece
  pub lies : LiesIn payload piece
  pub comes : (more : List ℕ) → ahead_at place (drop at piece ++ more) ≡ with_payload (payload_in payload piece joined) (ahead_at (place + size) (drop (at + size) piece ++ more))

-- The first payload that is read of all these bytes, followed by what is read after its `size` bytes. It is in the buffer.
pub record PassesOver (size : ℕ) (joined : List ℕ) (place : ℕ) (all : List ℕ) : Type 0 where
  pub some : 0 < size
  pub within : size ≤ length all
  pub comes : ahead_at place all ≡ with_payload joined (ahead_at (place + size) (drop size all))

-- what is read in a piece at an offset, which is this place of the log
abbrev pub ReadsIn : Read → List ℕ → List ℕ → ℕ → ℕ → Type 0
ReadsIn (read.Payload payload size) joined piece at place = Passes payload size joined piece at place
ReadsIn (read.Ended ending) joined piece at place = ahead_at place (drop at piece) ≡ ended ending

-- ---- in all pieces

-- a payload of this size is the first that is ahead
pub record Leads (payload : Payload) (size : ℕ) (joined : List ℕ) (place : ℕ) (old new : Unread) : Type 0 where
  pub some : 0 < size
  pub fits : length (bytes_ahead old) ≡ size + length (bytes_ahead new)
  pub lies : LiesIn payload new.piece.items
  pub comes : ahead_at place (bytes_ahead old) ≡ with_payload (payload_in payload new.piece.items joined) (ahead_at (place + size) (bytes_ahead new))

-- the result of a read at a place of the log, and the bytes ahead before it and after it
abbrev pub ReadsFrom : Read → List ℕ → ℕ → Unread → Unread → Type 0
ReadsFrom (read.Payload payload size) joined place old new = Leads payload size joined place old new
ReadsFrom (read.Ended ending) joined place old new = (ahead_at place (bytes_ahead old) ≡ ended ending) × (bytes_ahead new ≡ bytes_ahead old)

-- ---- as readers keep it

-- the position in the log, and the current piece
pub record PiecePosition : Type 0 where
  pub log : Position
  pub piece : List ℕ

-- The next result at a position, and the position after it: the first payload ahead, or the ending if none is ahead.
abbrev pub Comes : Next → List ℕ → PiecePosition → PiecePosition → Type 0
Comes (next.Payload payload) joined old new = ComesFirst (payload_in payload new.piece joined) old.log new.log × LiesIn payload new.piece
Comes (next.Ended ending) joined old new = (old.log.ahead ≡ ended ending) × (new.log ≡ old.log)

-- The next valid batch among the payloads ahead, or how far the log is read.
abbrev pub Finds : Found → List ℕ → ℕ → PiecePosition → PiecePosition → Type 0
Finds (found.Batch payload header) joined last old new =
    let bytes = payload_in payload new.piece joined in
    (batch_of last bytes ≡ Ok (writes_in header.sequence bytes)) × IsJudged header bytes × ComesFirst bytes old.log new.log × LiesIn payload new.piece
Finds (found.Ended ended) joined last old new = log_ahead last (old.log.payloads_read + 1) old.log.ahead ≡ nothing_ahead ended
