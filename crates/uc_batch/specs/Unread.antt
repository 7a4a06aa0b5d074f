-- The bytes of a log that are still to be read.
use Rattle.std.specs.Prelude.{List, ℕ, ◌++◌, drop}
use Rattle.uc_batch.specs.declared.unread.Unread.{Unread}

-- those of the piece from the offset on, and those of the pieces after it
abbrev pub bytes_ahead : Unread → List ℕ
bytes_ahead unread = drop unread.at unread.piece.items ++ unread.rest
