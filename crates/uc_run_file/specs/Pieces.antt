-- Checksums of the pieces of a file.
use Rattle.std.specs.Prelude.{◌≡◌, ◌≢◌, ℕ, zero, suc, ◌+◌, ◌*◌, ◌/◌, ◌<◌, List, [], ◌++◌, length, take, drop}
use Rattle.uc_logrec.specs.Crc.{crc_of}
use Rattle.uc_run_file.specs.Words.{half_text}

-- number of bytes of each piece; the last may have fewer
unfoldable pub piece_len : ℕ
piece_len = 65536

-- number of pieces of this many bytes
abbrev pub pieces_of : ℕ → ℕ
pieces_of len = (len + 65535) / 65536

-- the checksum of a piece in four bytes, lowest first
abbrev pub sum_text : List ℕ → List ℕ
sum_text piece = half_text (crc_of piece)

-- the checksums of this many pieces
unfoldable pub sums : ℕ → List ℕ → List ℕ
sums zero bytes = []
sums (suc count) bytes = sum_text (take piece_len bytes) ++ sums count (drop piece_len bytes)

-- the checksums of all pieces
abbrev pub table_of : List ℕ → List ℕ
table_of bytes = sums (pieces_of (length bytes)) bytes

-- the checksums of all pieces before an offset are in the table, and that of the piece there isn't
pub record IsDamagedAt (bytes table : List ℕ) (offset : ℕ) : Type 0 where
  pub piece : ℕ
  pub there : piece < pieces_of (length bytes)
  pub place : offset ≡ piece * piece_len
  pub before : take (4 * piece) table ≡ sums piece bytes
  pub other : take 4 (drop (4 * piece) table) ≢ sum_text (take piece_len (drop offset bytes))
