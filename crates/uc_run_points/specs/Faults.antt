-- Bytes that encode no entries, and the offset of the first fault.
use Rattle.std.specs.Prelude.{◌≡◌, ℕ, ◌+◌, ◌%◌, ◌<◌, ◌≤◌, List, ◌++◌, length, drop}
use Rattle.std.specs.List.{AllByRecursion}
use Rattle.uc_run_entry.specs.declared.entry.Entry.{Entry}
use Rattle.uc_run_points.specs.Spelling.{entry_text, entries_text, Fits}
use Rattle.uc_run_points.specs.declared.points_error.PointsError.{PointsError}
use Rattle.uc_run_points.specs.declared.points_error.PointsError.TheVariants.{Fault, Memory}

-- the tag of a point is valid, a deletion has no value, and the bytes that follow contain the key and the value or operand
pub record IsWhole (key_len text_len trailer rest_len : ℕ) : Type 0 where
  pub tag : trailer % 4 < 3
  pub none : trailer % 4 ≡ 0 → text_len ≡ 0
  pub there : key_len + text_len ≤ rest_len

-- the bytes are the encoding of an entry, and then the rest
pub record Begins (bytes rest : List ℕ) : Type 0 where
  pub entry : Entry
  pub fits : Fits entry
  pub spelled : bytes ≡ entry_text entry ++ rest

-- valid entries end at the offset, bytes follow, and these begin with no valid entry
pub record IsFaultAt (bytes : List ℕ) (offset : ℕ) : Type 0 where
  pub before : List Entry
  pub fits : AllByRecursion Fits before
  pub spelled : bytes ≡ entries_text before ++ drop offset bytes
  pub place : length (entries_text before) ≡ offset
  pub there : offset < length bytes
  pub none : (rest : List ℕ) → Begins (drop offset bytes) rest → ⊥

-- the error for these bytes
abbrev pub IsErrorOf : List ℕ → PointsError → Type 0
IsErrorOf bytes (Fault offset) = IsFaultAt bytes offset
IsErrorOf bytes Memory = Unit {0}
