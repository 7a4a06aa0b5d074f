-- Offsets of quarters of blocks.
use Rattle.std.specs.Prelude.{◌≡◌, ℕ, ◌+◌, ◌-◌, ◌*◌, ◌/◌, ◌<◌, List, length, take, slice_index}
use Rattle.uc_run_entry.specs.declared.entry.Entry.{Entry}
use Rattle.uc_run_points.specs.Spelling.{entries_text}

-- the number of entries in a quarter; the last may have fewer
abbrev pub quarter_points : ℕ
quarter_points = 4

-- the number of quarters that entries fill
abbrev pub quarters_of : List Entry → ℕ
quarters_of entries = (length entries + (quarter_points - 1)) / quarter_points

-- for each quarter, the offset of its first entry
pub record AreStarts (entries : List Entry) (starts : List ℕ) : Type 0 where
  pub each : length starts ≡ quarters_of entries
  pub offsets : (quarter : ℕ) → quarter < length starts → slice_index starts quarter ≡ length (entries_text (take (quarter_points * quarter) entries))
