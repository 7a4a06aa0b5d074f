-- The rows of a view as a write-ahead log that puts them, piece by piece.
use Rattle.std.specs.Prelude.{◌⊎◌, ◌≡◌, ◌≢◌, ◌<◌, ◌≤◌, ◌^◌, ◌+◌, ℕ, List, [], ◌++◌, Option, Some, None, length, map, drop, max, min, Any}
use Rattle.uc_bytes.specs.declared.op.Op.{Op}
use Rattle.uc_bytes.specs.declared.op.Op.TheVariants.{Put}
use Rattle.uc_bytes.specs.declared.write.Write.{Write}
use Rattle.uc_oper.specs.Operation.{Operation}
use Rattle.uc_logrec.specs.Log.{payload_text}
use Rattle.uc_batch.specs.declared.ended.Ended.TheVariants.{Clean}
use Rattle.uc_batch.specs.Batch.{numbered}
use Rattle.uc_batch.specs.Gathering.{FitTogether, numbered_text}
use Rattle.uc_batch.specs.Log.{log_writes}
use Rattle.uc_batch.specs.Spelling.{FitsOp}
use Rattle.uc_query_read.specs.Answers.{rows_of, named_keys}
use Rattle.uc_live.specs.Recording.{HasBatches}
use Rattle.uc_live.specs.Views.{Seen, writes_of, last}
use Rattle.uc_checkpoint.specs.declared.checkpoint.TheConstants.{MOST_ROWS}
use Rattle.uc_checkpoint.specs.declared.checkpoint_error.CheckpointError.{CheckpointError}
use Rattle.uc_checkpoint.specs.declared.checkpoint_error.CheckpointError.TheVariants.{TooLong, SequencesSpent, Memory}

-- a view, and how many of its rows are laid out
pub record Progress : Type 0 where
  pub seen : Seen
  pub rows : ℕ

-- all keys of a view that have a value at its last sequence, with it
abbrev pub all_rows : Operation → Seen → List (List ℕ × List ℕ)
all_rows m s = rows_of m (writes_of s) (last s) (named_keys (writes_of s) [] None)

-- those that are left
abbrev pub rows_left : Operation → Progress → List (List ℕ × List ℕ)
rows_left m p = drop p.rows (all_rows m p.seen)

-- number of rows of a piece, if enough are left
abbrev pub piece_size : ℕ → ℕ
piece_size most = max 1 (min most MOST_ROWS)

-- number of rows that are encoded after a piece
abbrev pub rows_behind : Operation → ℕ → Progress → ℕ
rows_behind m most p = p.rows + min (piece_size most) (length (rows_left m p))

-- a row as the operation that puts it
abbrev pub put_of : List ℕ × List ℕ → Op
put_of row = Put row.0 row.1

abbrev pub puts_of : List (List ℕ × List ℕ) → List Op
puts_of rows = map put_of rows

-- rows as writes, numbered from 1
abbrev pub writes_that_put : List (List ℕ × List ℕ) → List Write
writes_that_put rows = numbered 1 (puts_of rows)

-- The bytes are what a log of `len` bytes gets for the next rows, as a batch with the next sequence numbers.
pub record IsPiece (m : Operation) (len : ℕ) (bytes : List ℕ) (old new : Progress) : Type 0 where
  pub rows : List (List ℕ × List ℕ)
  pub some : rows ≢ []
  pub next : rows_left m old ≡ rows ++ rows_left m new
  pub fit : FitTogether (puts_of rows)
  pub below : old.rows + length rows < 2 ^ 56
  pub text : bytes ≡ payload_text len (numbered_text (old.rows + 1) (puts_of rows))
  pub goes_on : new ≡ record old { rows = old.rows + length rows }

-- A piece was laid out; or no row is left, and nothing changed.
abbrev pub LaysOut : Operation → ℕ → Option (List ℕ) → Progress → Progress → Type 0
LaysOut m len (Some bytes) old new = IsPiece m len bytes old new
LaysOut m len None old new = (rows_left m old ≡ []) × (new ≡ old)

-- A piece of `size` bytes was encoded into the buffer, or it doesn't fit, and nothing changed.
pub record IsInRoom (m : Operation) (len most size : ℕ) (room room' : List ℕ) (old new : Progress) : Type 0 where
  pub bytes : List ℕ
  pub behind : Progress
  pub piece : IsPiece m len bytes old behind
  pub many : behind.rows ≡ rows_behind m most old
  pub size_is : size ≡ length bytes
  pub laid :
      ((size ≤ length room) × (room' ≡ bytes ++ drop size room) × (new ≡ behind))
      ⊎ ((length room < size) × (room' ≡ room) × (new ≡ old))

-- So it is; or no row is left, and nothing changed.
abbrev pub LaysInto : Operation → ℕ → ℕ → Option ℕ → List ℕ → List ℕ → Progress → Progress → Type 0
LaysInto m len most (Some size) room room' old new = IsInRoom m len most size room room' old new
LaysInto m len most None room room' old new = (rows_left m old ≡ []) × (room' ≡ room) × (new ≡ old)

-- Why no piece was laid out.
abbrev pub RefusesPiece : Operation → Progress → CheckpointError → Type 0
RefusesPiece m p TooLong = Any (λ row. FitsOp (put_of row) → ⊥) (rows_left m p)
RefusesPiece m p SequencesSpent = 2 ^ 56 ≤ p.rows + length (rows_left m p)
RefusesPiece m p Memory = Unit {0}

-- A log has puts of the rows that are encoded, and ends clean. More can be appended.
pub record IsLaidOut (m : Operation) (s : Seen) (log : List ℕ) (p : Progress) : Type 0 where
  pub rows : List (List ℕ × List ℕ)
  pub of_view : p.seen ≡ s
  pub all : all_rows m s ≡ rows ++ rows_left m p
  pub counted : p.rows ≡ length rows
  pub batches : HasBatches log (length log) (writes_that_put rows)
  pub read : log_writes log ≡ record { list = writes_that_put rows; ended = Clean }
