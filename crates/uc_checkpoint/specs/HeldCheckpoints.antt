-- How a checkpoint is held.
use Rattle.std.specs.Prelude.{◌≡◌, ◌≤◌, ◌<◌, ◌^◌, ◌+◌, ℕ, IsTrue, List, [], ◌∷◌, ◌++◌, Option, Some, None, length, take, drop, min, Any}
use Rattle.std.specs.List.{AllByRecursion}
use Rattle.std.specs.Ordering.{is_lt, is_le}
use Rattle.uc_bytes.specs.Bytes.{bytes_cmp}
use Rattle.uc_oper.specs.Operation.{Operation}
use Rattle.uc_batch.specs.Spelling.{FitsOp}
use Rattle.uc_checkpoint.specs.Checkpoints.{IsPiece, Progress, all_rows, put_of, rows_behind}
use Rattle.uc_checkpoint.specs.declared.checkpoint.TheConstants.{MOST_ROWS}
use Rattle.uc_checkpoint.specs.declared.checkpoint_error.CheckpointError.{CheckpointError}
use Rattle.uc_checkpoint.specs.declared.checkpoint_error.CheckpointError.TheVariants.{TooLong, SequencesSpent, Memory}
use Rattle.uc_checkpoint.specs.declared.checkpoint.Checkpoint.TheInside.{Inside}

abbrev pub progress : {O : Type 0} → Inside O → Progress
progress i = record { seen = i.view; rows = i.rows }

-- The next key parts the rows that are laid out from those that are left. There is none where none is left.
abbrev pub Parts : Option (List ℕ) → ℕ → List (List ℕ × List ℕ) → Type 0
Parts (Some key) count rows =
    AllByRecursion (λ row. IsTrue (is_lt (bytes_cmp row.0 key))) (take count rows)
    × AllByRecursion (λ row. IsTrue (is_le (bytes_cmp key row.0))) (drop count rows)
Parts None count rows = count ≡ length rows

pub record IsProgress (m : Operation) {O : Type 0} (i : Inside O) : Type 0 where
  pub parts : Parts i.next i.rows (all_rows m i.view)
  pub within : i.rows ≤ length (all_rows m i.view)
  pub below : i.rows < 2 ^ 56

-- The row after the first `most` was removed, if there was one: this is its key.
abbrev pub Splits : ℕ → List (List ℕ × List ℕ) → List (List ℕ × List ℕ) → Option (List ℕ) → Type 0
Splits most all rows (Some key) = (value : List ℕ) × (all ≡ rows ++ (key, value) ∷ []) × (length rows ≡ most)
Splits most all rows None = (all ≡ rows) × (length rows ≤ most)

-- The first `most` rows after `count`, and the key that separates them from the others. There is no key only if no row is left.
pub record IsPage (all : List (List ℕ × List ℕ)) (count most : ℕ) (rows : List (List ℕ × List ℕ)) (next : Option (List ℕ)) : Type 0 where
  pub few : length rows ≤ MOST_ROWS
  pub many : length rows ≡ min most (length (drop count all))
  pub left : drop count all ≡ rows ++ drop (count + length rows) all
  pub parts : Parts next (count + length rows) all
  pub within : count + length rows ≤ length all
  pub some : rows ≡ [] → drop count all ≡ []

-- Why rows aren't put by one batch.
abbrev pub RefusesRows : List (List ℕ × List ℕ) → CheckpointError → Type 0
RefusesRows rows TooLong = Any (λ row. FitsOp (put_of row) → ⊥) rows
RefusesRows rows SequencesSpent = ⊥
RefusesRows rows Memory = Unit {0}

-- The piece that is encoded next, and the place where the checkpoint continues after it.
pub record IsNext (m : Operation) (len most : ℕ) (p : Progress) (text : List ℕ) (next : Option (List ℕ)) (rows : ℕ) : Type 0 where
  pub piece : IsPiece m len text p (record p { rows = rows })
  pub many : rows ≡ rows_behind m most p
  pub parts : Parts next rows (all_rows m p.seen)
  pub within : rows ≤ length (all_rows m p.seen)
