-- How a store begins.
use Rattle.std.specs.Prelude.{◌≡◌, ℕ, ◌≤◌, true, List, [], ◌∷◌, ◌++◌, length, fold}
use Rattle.std.specs.List.{AllByRecursion}
use Rattle.std.specs.BTreeSet.{insert_key}
use Rattle.std.specs.Ordering.{nat_cmp}
use Rattle.uc_bytes.specs.declared.write.Write.{Write}
use Rattle.uc_batch.specs.Rising.{IsRising, last_of}
use Rattle.uc_claims.specs.declared.table.TheConstants.{MOST_SLOTS}
use Rattle.uc_version_state.specs.declared.options.Options.{Options}
use Rattle.uc_version_state.specs.Options.{are_good}
use Rattle.uc_version_state.specs.Versions.{Stored}
use Rattle.uc_version_state.specs.Flushes.{memtables}
use Rattle.uc_version_state.specs.Feeds.{fed}

-- the writes of a log, the sequences that snapshots keep, in any order, and how the store is opened
pub record Opening : Type 0 where
  pub writes : List Write
  pub keeps : List ℕ
  pub options : Options

-- sequences in order, each once
abbrev pub rising : List ℕ → List ℕ
rising seqs = fold (insert_key nat_cmp) [] seqs

-- a store that holds nothing yet; the last sequence that it opens with is kept too
abbrev pub unwritten : Opening → Stored
unwritten o = record {
  runs = [];
  keeps = rising (o.keeps ++ last_of 0 o.writes ∷ []);
  last = 0;
  next_id = o.options.first_id;
  limit = o.options.memtable;
}

-- the version that a store begins with: its writes are fed to it
abbrev pub opened : Opening → Stored
opened o = fed o.writes (unwritten o)

-- options that are good, no snapshot above the last write, and no more runs than slots
pub record MayOpen (o : Opening) : Type 0 where
  pub rising : IsRising 0 o.writes
  pub options_good : are_good o.options ≡ true
  pub keeps_below : AllByRecursion (λ keep. keep ≤ last_of 0 o.writes) o.keeps
  pub few : length (memtables o.options.memtable o.writes) ≤ MOST_SLOTS
