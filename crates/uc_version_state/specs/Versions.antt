-- The contents of a store at one point in time.
use Rattle.std.specs.Prelude.{ℕ, ◌<◌, ◌≤◌, ◌^◌, List, map}
use Rattle.std.specs.List.{AllByRecursion}
use Rattle.std.specs.List.Sorted.{IsStrictlySortedBy}
use Rattle.std.specs.Ordering.{nat_cmp}
use Rattle.uc_bytes.specs.declared.write.Write.{Write}
use Rattle.uc_claims.specs.Holding.{AreDistinct}
use Rattle.uc_claims.specs.declared.table.TheConstants.{MOST_SLOTS}
use Rattle.uc_run_entry.specs.Run.{Contents}
use Rattle.uc_compact.specs.Inputs.{AreRuns, AreNewestFirst, writes_of}

-- a run with its place: a number that no other run ever has, and a slot that it has until it is replaced
pub record PlacedRun : Type 0 where
  pub id : ℕ
  pub slot : ℕ
  pub run : Contents

-- runs, the newest first; the sequences of reads; the last sequence; the number of the next run; and the size from which
-- on a memtable is flushed
pub record Stored : Type 0 where
  pub runs : List PlacedRun
  pub keeps : List ℕ
  pub last : ℕ
  pub next_id : ℕ
  pub limit : ℕ

abbrev pub contents_of : List PlacedRun → List Contents
contents_of runs = map (λ p. p.run) runs

abbrev pub ids_of : List PlacedRun → List ℕ
ids_of runs = map (λ p. p.id) runs

abbrev pub slots_of : List PlacedRun → List ℕ
slots_of runs = map (λ p. p.slot) runs

-- its plain writes: the plain lists of its runs, the oldest first
abbrev pub writes_in : Stored → List Write
writes_in v = writes_of (contents_of v.runs)

-- These make a version.
pub record IsVersion (v : Stored) : Type 0 where
  pub runs : AreRuns (contents_of v.runs)
  pub newest_first : AreNewestFirst (contents_of v.runs)
  -- nothing that it holds is above the last sequence
  pub below : AllByRecursion (λ r. r.high ≤ v.last) (contents_of v.runs)
  pub keeps_rise : IsStrictlySortedBy nat_cmp v.keeps
  pub keeps_below : AllByRecursion (λ keep. keep ≤ v.last) v.keeps
  pub last_below : v.last < 2 ^ 56
  -- no two runs have one slot or one id, and ids are below the next one
  pub slots_apart : AreDistinct (slots_of v.runs)
  pub slots_below : AllByRecursion (λ slot. slot < MOST_SLOTS) (slots_of v.runs)
  pub ids_apart : AreDistinct (ids_of v.runs)
  pub ids_given : AllByRecursion (λ id. id < v.next_id) (ids_of v.runs)
  pub id_below : v.next_id < 2 ^ 64
  pub limit_some : 1 ≤ v.limit
