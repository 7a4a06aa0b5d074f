-- The place of a walk over the points of several runs.
use Rattle.std.specs.Prelude.{◌≡◌, ◌≢◌, ℕ, ◌-◌, ◌≤◌, ⊤, Bool, true, false, ◌++◌, List, Option, Some, None, length, map, max, take, drop}
use Rattle.std.specs.List.{AllByRecursion}
use Rattle.std.specs.Ordering.{is_lt}
use Rattle.uc_bytes.specs.Bytes.{bytes_cmp}
use Rattle.uc_oper.specs.Operation.{Operation}
use Rattle.uc_query_read.specs.Answers.{rows_of}
use Rattle.uc_run_entry.specs.Run.{Contents, IsRun}
use Rattle.uc_run_entry.specs.Seek.{seek_place}
use Rattle.uc_run.specs.Cursors.{Standing}
use Rattle.uc_run.specs.Heads.{NextKeys, next_key, number_of}
use Rattle.uc_compact.specs.Inputs.{points_of, writes_of}
use Rattle.uc_query_read.specs.Ahead.{keys_ahead}

-- runs, the newest first, and the keys of their points that are still ahead
pub record Walk : Type 0 where
  pub runs : List Contents
  pub keys : List (List ℕ)

-- cursors in runs, the newest first, and the front by which the newer ones' next keys have numbers
pub record Numbered : Type 0 where
  pub front : List ℕ
  pub cursors : List Standing

-- a walk that passed keys without a value at a sequence, or stayed: the same rows are ahead, no more keys are, and the
-- runs are the same
pub record Skips (m : Operation) (at : ℕ) (old new : Walk) : Type 0 where
  pub rows : rows_of m (writes_of old.runs) at new.keys ≡ rows_of m (writes_of old.runs) at old.keys
  pub shorter : length new.keys ≤ length old.keys
  pub runs : new.runs ≡ old.runs

-- the runs, and their keys at or above `low` (above it if `strict`), and below `high` if there is one
abbrev pub walk_at : List ℕ → Bool → Option (List ℕ) → List Contents → Walk
walk_at low strict high runs = record { runs = runs; keys = keys_ahead (points_of runs) low strict high }

abbrev pub runs_of : List Standing → List Contents
runs_of cursors = map (λ c. c.run) cursors

-- before a run's points at or above `low` (above it if `strict`)
abbrev pub standing_at : List ℕ → Bool → Contents → Standing
standing_at low strict run = record { run = run; place = seek_place run.points low strict }

abbrev pub StandsAt : List ℕ → Bool → Standing → Type 0
StandsAt low strict c = c.place ≡ seek_place c.run.points low strict

-- the contents of the cursor's run make a run
abbrev pub IsOfRun : Standing → Type 0
IsOfRun c = IsRun c.run.low c.run.high c.run.points c.run.fragments

-- past the points at and below a key, never back
abbrev pub passed : List ℕ → Standing → Standing
passed key c = record { run = c.run; place = max c.place (seek_place c.run.points key true) }

-- up to a place cursors have passed a key, and from there on they are where they were
abbrev pub ArePassedTo : List ℕ → List Standing → List Standing → ℕ → Type 0
ArePassedTo key old now place = now ≡ map (passed key) (take place old) ++ drop place old

-- past the points below a key, never back
abbrev pub sought : List ℕ → Standing → Standing
sought low c = record { run = c.run; place = max c.place (seek_place c.run.points low false) }

-- the cursors of all runs but the oldest
abbrev pub newer_of : List Standing → List Standing
newer_of cursors = take (length cursors - 1) cursors

-- the number of a key by a front; with none the key isn't among the next ones
abbrev pub IsFoundAmong : NextKeys → List ℕ → Option ℕ → Type 0
IsFoundAmong heads key None = AllByRecursion (λ next. next ≢ Some key) heads.keys
IsFoundAmong heads key (Some number) = number ≡ number_of heads.front key

-- among the newer cursors' next keys
abbrev pub IsFound : Numbered → List ℕ → Option ℕ → Type 0
IsFound w key number = IsFoundAmong (record { front = w.front; keys = map next_key (newer_of w.cursors) }) key number

-- a least key is another with its number; with none it comes before that one, if there is one
abbrev pub IsFoundBeside : Option (List ℕ × ℕ) → List ℕ → Option ℕ → Type 0
IsFoundBeside newer key (Some number) = newer ≡ Some (key, number)
IsFoundBeside None key None = ⊤
IsFoundBeside (Some head) key None = is_lt (bytes_cmp key head.0) ≡ true
