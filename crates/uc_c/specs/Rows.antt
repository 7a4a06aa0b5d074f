-- The rows that a scan writes into the caller's buffer.
use Rattle.std.specs.Prelude.{◌≡◌, ℕ, ℤ, Bool, List, Option, if◌then◌else◌}
use Rattle.uc_query_read.specs.declared.answer.Answer.{Answer}
use Rattle.uc_query_read.specs.declared.answer.Answer.TheVariants.{Value, Rows, NotProtected}
use Rattle.uc_engine.specs.EngineViews.{Viewed, rows_seen, rows_seen_back}
use Rattle.uc_c.specs.declared.status.TheConstants.{OK, NOT_PROTECTED}
pub use Rattle.uc_rows.specs.Laying.{AreShown}

-- A value answers no scan.
abbrev pub IsScanned : Answer → Type 0
IsScanned (Rows rows) = Unit {0}
IsScanned (NotProtected at) = Unit {0}
IsScanned (Value value) = ⊥

-- the answer to a scan
abbrev pub Scanned : ℤ → Answer → List ℕ → List ℕ → ℕ → ℕ → Type 0
Scanned status (Rows rows) room room' size count = (status ≡ OK) × AreShown rows room room' size count
Scanned status (NotProtected at) room room' size count = status ≡ NOT_PROTECTED
Scanned status (Value value) room room' size count = ⊥

-- the first rows of a scan of a view, or the last ones, the greatest key first
abbrev pub rows_scanned : Bool → Viewed → List ℕ → Option (List ℕ) → ℕ → List (List ℕ × List ℕ)
rows_scanned is_back v low high limit = if is_back then rows_seen_back v low high limit else rows_seen v low high limit
