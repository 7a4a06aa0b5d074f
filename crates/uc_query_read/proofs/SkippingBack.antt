-- A walk in descending order that skips dead keys shows the same rows.
use Rattle.std.proofs.Common.{◌≡◌, ℕ, ◌≤◌, min, Bool, true, false, List, [], ◌∷◌, map, filter, filter_map, length, Option, Some, None, refl, sym, ap, ◌∙◌, subst, arith}
use Rattle.std.specs.Prelude.{not, ◌&&◌, option_map, reverse}
use Rattle.std.specs.List.{AllByRecursion}
use Rattle.std.specs.Ordering.{is_lt, is_le}
use Rattle.std.proofs.lemmas.Bool.{false≢true}
use Rattle.std.proofs.lemmas.List.{length-reverse}
use Rattle.std.proofs.lemmas.List.Sums.{length-filter}
use Rattle.uc_bytes.specs.Bytes.{bytes_cmp}
use Rattle.uc_oper.specs.Operation.{Operation}
use Rattle.uc_model.specs.Meaning.{value_of}
use Rattle.uc_run_entry.specs.declared.entry.Entry.{Entry}
use Rattle.uc_run_entry.specs.Run.{Contents}
use Rattle.uc_run_entry.specs.Seek.{is_passed, seek_place}
use Rattle.uc_run.specs.Cursors.{Standing}
use Rattle.uc_compact.specs.Groups.{keys_of}
use Rattle.uc_compact.specs.Inputs.{writes_of, points_of}
use Rattle.uc_compact.proofs.Keys.{lt_of, lt_le}
use Rattle.uc_query_read.specs.Ahead.{is_ahead, keys_ahead}
use Rattle.uc_query_read.specs.Answers.{rows_of}
use Rattle.uc_query_read.specs.Back.{back_walk_at, passed_back, StandsBelow}
use Rattle.uc_query_read.specs.Dead.{AreDeadBelow}
use Rattle.uc_query_read.specs.Walks.{Walk, runs_of, Skips}
use Rattle.uc_query_read.proofs.Shown.{filter_map-reverse}
use Rattle.uc_query_read.proofs.Skipping.{same_given, no_more_given}
use Rattle.uc_query_read.proofs.Standing.{more_length}
use Rattle.uc_query_read.proofs.Walking.{and_left, and_right}

-- ---- a cursor before a key moves back to a bound that isn't above it

module _ (key bound : List ℕ) (le : is_le (bytes_cmp bound key) ≡ true) where
  passed_too : (x : List ℕ) → is_lt (bytes_cmp x bound) ≡ true → is_lt (bytes_cmp x key) ≡ true
  passed_too x less = ap is_lt (lt_le x bound key (lt_of x bound less) le)

  no_further : (ps : List Entry) → seek_place ps bound false ≤ seek_place ps key false
  no_further ps =
      let fewer : length (filter (λ p. is_passed bound false p.key) ps) ≤ length (filter (λ p. is_passed key false p.key) ps) = more_length (λ p. is_passed bound false p.key) (λ p. is_passed key false p.key) (λ p. passed_too p.key) ps in
      let a : length (filter (λ p. is_passed bound false p.key) ps) ≡ seek_place ps bound false = length-filter (λ p. is_passed bound false p.key) ps in
      let b : length (filter (λ p. is_passed key false p.key) ps) ≡ seek_place ps key false = length-filter (λ p. is_passed key false p.key) ps in
      omega (arith, fewer, a, b)

  one_there : (n : ℕ) (ps : List Entry) → n ≡ seek_place ps key false → min n (seek_place ps bound false) ≡ seek_place ps bound false
  one_there n ps e = let fewer : seek_place ps bound false ≤ seek_place ps key false = no_further ps in omega (arith, e, fewer)

  all_there : (cs : List Standing) → AllByRecursion (StandsBelow (Some key)) cs → AllByRecursion (StandsBelow (Some bound)) (map (passed_back bound) cs)
  all_there [] h = tt
  all_there (c ∷ cs) h = (one_there c.place c.run.points h.0, all_there cs h.1)

runs_stay : (bound : List ℕ) (cs : List Standing) → runs_of (map (passed_back bound) cs) ≡ runs_of cs
runs_stay bound [] = refl
runs_stay bound (c ∷ cs) = ap (λ (runs : List Contents). c.run ∷ runs) (runs_stay bound cs)

-- ---- a step over dead keys

module _ (m : Operation) (at : ℕ) (walk : Walk) (cursors : List Standing) (low key bound : List ℕ) (is : back_walk_at low (Some key) (runs_of cursors) ≡ walk) (there : AllByRecursion (StandsBelow (Some key)) cursors) (dead : AreDeadBelow m (writes_of (runs_of cursors)) at key bound) (moved : List Standing) (goes : moved ≡ map (passed_back bound) cursors) where
  pub stand_at : AllByRecursion (StandsBelow (Some bound)) moved
  stand_at = subst (AllByRecursion (StandsBelow (Some bound))) (sym goes) (all_there key bound dead.below cursors there)

  stay : runs_of moved ≡ runs_of cursors
  stay = ap runs_of goes ∙ runs_stay bound cursors

  same_runs : runs_of moved ≡ walk.runs
  same_runs = stay ∙ ap (λ (w : Walk). w.runs) is

  abbrev before : List ℕ → Bool
  before x = is_ahead low false (Some key) x

  abbrev below : List ℕ → Bool
  below x = is_ahead low false (Some bound) x

  both : (a b : Bool) → a ≡ true → b ≡ true → (a && b) ≡ true
  both true b e f = f
  both false b e f = absurd (false≢true e)

  ahead_too : (x : List ℕ) → below x ≡ true → before x ≡ true
  ahead_too x h =
      both (not (is_passed low false x)) (is_lt (bytes_cmp x key)) (and_left (not (is_passed low false x)) (is_lt (bytes_cmp x bound)) h)
      (passed_too key bound dead.below x (and_right (not (is_passed low false x)) (is_lt (bytes_cmp x bound)) h))

  out_by : (x : List ℕ) (a b : Bool) → a ≡ true → (a && b) ≡ false → b ≡ false
  out_by x true b e f = f
  out_by x false b e f = absurd (false≢true e)

  abbrev value : List ℕ → Option (List ℕ)
  value x = value_of m (writes_of (runs_of cursors)) x at

  none_there : (x : List ℕ) → before x ≡ true → below x ≡ false → value x ≡ None
  none_there x h k =
      dead.dead x
      (out_by x (not (is_passed low false x)) (is_lt (bytes_cmp x bound)) (and_left (not (is_passed low false x)) (is_lt (bytes_cmp x key)) h) k)
      (lt_of x key (and_right (not (is_passed low false x)) (is_lt (bytes_cmp x key)) h))

  abbrev row : List ℕ → Option (List ℕ × List ℕ)
  row x = option_map (λ v. (x, v)) (value x)

  no_row : (x : List ℕ) → before x ≡ true → below x ≡ false → row x ≡ None
  no_row x h k = ap (option_map (λ (v : List ℕ). (x, v))) (none_there x h k)

  abbrev points : List Entry
  points = points_of (runs_of cursors)

  abbrev new_keys : List (List ℕ)
  new_keys = keys_ahead points low false (Some bound)

  abbrev old_keys : List (List ℕ)
  old_keys = keys_ahead points low false (Some key)

  keys_are : reverse old_keys ≡ walk.keys
  keys_are = ap (λ (w : Walk). w.keys) is

  moved_keys : reverse (keys_ahead (points_of (runs_of moved)) low false (Some bound)) ≡ reverse new_keys
  moved_keys = ap (λ (runs : List Contents). reverse (keys_ahead (points_of runs) low false (Some bound))) stay

  turned : filter_map row (reverse new_keys) ≡ filter_map row (reverse old_keys)
  turned =
      filter_map-reverse row new_keys
      ∙ ap reverse (same_given row before below ahead_too no_row (keys_of points))
      ∙ sym (filter_map-reverse row old_keys)

  same_rows : rows_of m (writes_of walk.runs) at (reverse (keys_ahead (points_of (runs_of moved)) low false (Some bound))) ≡ rows_of m (writes_of walk.runs) at walk.keys
  same_rows =
      ap (rows_of m (writes_of walk.runs) at) moved_keys
      ∙ subst (λ (runs : List Contents). rows_of m (writes_of runs) at (reverse new_keys) ≡ rows_of m (writes_of runs) at (reverse old_keys)) (ap (λ (w : Walk). w.runs) is) turned
      ∙ ap (rows_of m (writes_of walk.runs) at) keys_are

  no_more : length (reverse (keys_ahead (points_of (runs_of moved)) low false (Some bound))) ≤ length walk.keys
  no_more =
      let fewer : length new_keys ≤ length old_keys = no_more_given row before below ahead_too no_row (keys_of points) in
      let new : length (reverse (keys_ahead (points_of (runs_of moved)) low false (Some bound))) ≡ length new_keys = ap length moved_keys ∙ length-reverse new_keys in
      let old : length old_keys ≡ length walk.keys = sym (length-reverse old_keys) ∙ ap length keys_are in
      omega (arith, fewer, new, old)

  pub skips : Skips m at walk (back_walk_at low (Some bound) (runs_of moved))
  skips = record { rows = same_rows; shorter = no_more; runs = same_runs }
