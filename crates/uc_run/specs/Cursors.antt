-- The place of a walk over the points of a run.
use Rattle.std.specs.Prelude.{ℕ, Bool, List, length, nat_lt}
use Rattle.std.specs.Ordering.{is_le}
use Rattle.uc_bytes.specs.Bytes.{bytes_cmp}
use Rattle.uc_run_entry.specs.Fragment.{Fragment}
use Rattle.uc_run_entry.specs.Run.{Contents}
use Rattle.uc_run.specs.Places.{place_of, IsRest}
use Rattle.uc_run.specs.declared.cursor.Cursor.TheInside.{Inside}

-- a run, and how many of its points were passed
pub record Standing : Type 0 where
  pub run : Contents
  pub place : ℕ

abbrev pub standing : Inside → Standing
standing c = record { run = c.run.now; place = place_of c.run.now.points c.ahead }

-- what is ahead are the others
abbrev pub IsInside : Inside → Type 0
IsInside c = IsRest c.run.now.points c.ahead

-- a fragment ends at or before a key
abbrev pub ends_by : List ℕ → Fragment → Bool
ends_by key f = is_le (bytes_cmp f.end key)

-- whether a cursor's run has range deletions
abbrev pub has_ranges : Standing → Bool
has_ranges c = nat_lt 0 (length c.run.fragments)
