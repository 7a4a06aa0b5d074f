-- A walk that skips dead keys shows the same rows.
use Rattle.std.proofs.Common.{◌≡◌, ℕ, ◌≤◌, max, Bool, true, false, cond, List, [], ◌∷◌, map, filter, filter_map, length, Option, None, refl, sym, ap, ◌∙◌, subst, arith}
use Rattle.std.specs.Prelude.{not, ◌&&◌, option_map}
use Rattle.std.specs.List.{AllByRecursion, cons_option}
use Rattle.std.specs.declared.cmp.Ordering.TheVariants.{Less}
use Rattle.std.specs.Ordering.{is_lt, is_le}
use Rattle.std.specs.BTreeMap.Comparable.{le_lt_trans}
use Rattle.std.proofs.lemmas.Bool.{false≢true}
use Rattle.std.proofs.lemmas.Cmp.{nat_list_cmp_total}
use Rattle.std.proofs.lemmas.List.Sums.{length-filter}
use Rattle.uc_bytes.specs.Bytes.{bytes_cmp}
use Rattle.uc_oper.specs.Operation.{Operation}
use Rattle.uc_model.specs.Meaning.{value_of}
use Rattle.uc_run_entry.specs.declared.entry.Entry.{Entry}
use Rattle.uc_run_entry.specs.Run.{Contents}
use Rattle.uc_run_entry.specs.Seek.{is_passed, seek_place}
use Rattle.uc_run.specs.Cursors.{Standing}
use Rattle.uc_compact.specs.Groups.{keys_of}
use Rattle.uc_compact.proofs.Keys.{lt_of}
use Rattle.uc_query_read.specs.Answers.{is_below, rows_of}
use Rattle.uc_compact.specs.Inputs.{writes_of, points_of}
use Rattle.uc_query_read.specs.Ahead.{is_ahead, keys_ahead}
use Rattle.uc_query_read.specs.Walks.{Walk, walk_at, runs_of, sought, StandsAt, Skips}
use Rattle.uc_query_read.specs.Dead.{AreDead}
use Rattle.uc_query_read.proofs.Standing.{more_length}
use Rattle.uc_query_read.proofs.Walking.{and_left, and_right, not_true, above}

-- ---- of a list, what passes a stronger test that leaves out only what gives nothing

module _ {X Y : Type 0} (f : X → Option Y) (p q : X → Bool) (weaker : (x : X) → q x ≡ true → p x ≡ true) (empty : (x : X) → p x ≡ true → q x ≡ false → f x ≡ None) where
  given_by : (x : X) (ps qs : List X) (a b : Bool) → p x ≡ a → q x ≡ b → filter_map f qs ≡ filter_map f ps → filter_map f (cond b (x ∷ qs) qs) ≡ filter_map f (cond a (x ∷ ps) ps)
  given_by x ps qs true true d e rest = ap (λ (ys : List Y). cons_option (f x) ys) rest
  given_by x ps qs true false d e rest = rest ∙ sym (ap (λ (o : Option Y). cons_option o (filter_map f ps)) (empty x d e))
  given_by x ps qs false true d e rest = absurd (false≢true (sym d ∙ weaker x e))
  given_by x ps qs false false d e rest = rest

  pub same_given : (xs : List X) → filter_map f (filter q xs) ≡ filter_map f (filter p xs)
  same_given [] = refl
  same_given (x ∷ xs) = given_by x (filter p xs) (filter q xs) (p x) (q x) refl refl (same_given xs)

  fewer_by : (x : X) (ps qs : List X) (a b : Bool) → p x ≡ a → q x ≡ b → length qs ≤ length ps → length (cond b (x ∷ qs) qs) ≤ length (cond a (x ∷ ps) ps)
  fewer_by x ps qs true true d e rest = omega (arith, rest)
  fewer_by x ps qs true false d e rest = omega (arith, rest)
  fewer_by x ps qs false true d e rest = absurd (false≢true (sym d ∙ weaker x e))
  fewer_by x ps qs false false d e rest = rest

  pub no_more_given : (xs : List X) → length (filter q xs) ≤ length (filter p xs)
  no_more_given [] = omega arith
  no_more_given (x ∷ xs) = fewer_by x (filter p xs) (filter q xs) (p x) (q x) refl refl (no_more_given xs)

-- ---- a cursor after a key moves to a bound above it

module _ (key bound : List ℕ) (less : bytes_cmp key bound ≡ Less) where
  passed_too : (x : List ℕ) → is_le (bytes_cmp x key) ≡ true → is_lt (bytes_cmp x bound) ≡ true
  passed_too x le = ap is_lt (le_lt_trans nat_list_cmp_total x key bound le less)

  further : (ps : List Entry) → seek_place ps key true ≤ seek_place ps bound false
  further ps =
      let le : length (filter (λ p. is_passed key true p.key) ps) ≤ length (filter (λ p. is_passed bound false p.key) ps) = more_length (λ p. is_passed key true p.key) (λ p. is_passed bound false p.key) (λ p. passed_too p.key) ps in
      let a : length (filter (λ p. is_passed key true p.key) ps) ≡ seek_place ps key true = length-filter (λ p. is_passed key true p.key) ps in
      let b : length (filter (λ p. is_passed bound false p.key) ps) ≡ seek_place ps bound false = length-filter (λ p. is_passed bound false p.key) ps in
      omega (arith, le, a, b)

  one_there : (n : ℕ) (ps : List Entry) → n ≡ seek_place ps key true → max n (seek_place ps bound false) ≡ seek_place ps bound false
  one_there n ps e = let le : seek_place ps key true ≤ seek_place ps bound false = further ps in omega (arith, e, le)

  all_there : (cs : List Standing) → AllByRecursion (StandsAt key true) cs → AllByRecursion (StandsAt bound false) (map (sought bound) cs)
  all_there [] h = tt
  all_there (c ∷ cs) h = (one_there c.place c.run.points h.0, all_there cs h.1)

  runs_stay : (cs : List Standing) → runs_of (map (sought bound) cs) ≡ runs_of cs
  runs_stay [] = refl
  runs_stay (c ∷ cs) = ap (λ (runs : List Contents). c.run ∷ runs) (runs_stay cs)

-- ---- a step over dead keys

module _ (m : Operation) (at : ℕ) (walk : Walk) (cursors : List Standing) (key bound : List ℕ) (high : Option (List ℕ)) (is : walk_at key true high (runs_of cursors) ≡ walk) (there : AllByRecursion (StandsAt key true) cursors) (dead : AreDead m (writes_of (runs_of cursors)) at key bound) (moved : List Standing) (goes : moved ≡ map (sought bound) cursors) where
  pub stand_at : AllByRecursion (StandsAt bound false) moved
  stand_at = subst (AllByRecursion (StandsAt bound false)) (sym goes) (all_there key bound dead.above cursors there)

  stay : runs_of moved ≡ runs_of cursors
  stay = ap runs_of goes ∙ runs_stay key bound dead.above cursors

  same_runs : runs_of moved ≡ walk.runs
  same_runs = stay ∙ ap (λ (w : Walk). w.runs) is

  abbrev before : List ℕ → Bool
  before x = is_ahead key true high x

  abbrev behind : List ℕ → Bool
  behind x = is_ahead bound false high x

  ahead_by : (x : List ℕ) (b : Bool) → is_le (bytes_cmp x key) ≡ b → behind x ≡ true → before x ≡ true
  ahead_by x true e h =
      absurd (false≢true (ap not (sym (passed_too key bound dead.above x e)) ∙ and_left (not (is_lt (bytes_cmp x bound))) (is_below x high) h))
  ahead_by x false e h = ap (λ b. not b && is_below x high) e ∙ and_right (not (is_lt (bytes_cmp x bound))) (is_below x high) h

  ahead_too : (x : List ℕ) → behind x ≡ true → before x ≡ true
  ahead_too x h = ahead_by x (is_le (bytes_cmp x key)) refl h

  below_by : (x : List ℕ) (b c : Bool) → is_lt (bytes_cmp x bound) ≡ b → c ≡ true → (not b && c) ≡ false → is_lt (bytes_cmp x bound) ≡ true
  below_by x true c e d h = e
  below_by x false c e d h = absurd (false≢true (sym h ∙ d))

  abbrev value : List ℕ → Option (List ℕ)
  value x = value_of m (writes_of (runs_of cursors)) x at

  none_there : (x : List ℕ) → before x ≡ true → behind x ≡ false → value x ≡ None
  none_there x h k =
      dead.dead x
      (above x key (not_true (is_le (bytes_cmp x key)) (and_left (not (is_le (bytes_cmp x key))) (is_below x high) h)))
      (lt_of x bound (below_by x (is_lt (bytes_cmp x bound)) (is_below x high) refl (and_right (not (is_le (bytes_cmp x key))) (is_below x high) h) k))

  abbrev row : List ℕ → Option (List ℕ × List ℕ)
  row x = option_map (λ v. (x, v)) (value x)

  no_row : (x : List ℕ) → before x ≡ true → behind x ≡ false → row x ≡ None
  no_row x h k = ap (option_map (λ (v : List ℕ). (x, v))) (none_there x h k)

  abbrev points : List Entry
  points = points_of (runs_of cursors)

  keys_are : keys_ahead points key true high ≡ walk.keys
  keys_are = ap (λ (w : Walk). w.keys) is

  moved_keys : keys_ahead (points_of (runs_of moved)) bound false high ≡ keys_ahead points bound false high
  moved_keys = ap (λ (runs : List Contents). keys_ahead (points_of runs) bound false high) stay

  same_rows : rows_of m (writes_of walk.runs) at (keys_ahead (points_of (runs_of moved)) bound false high) ≡ rows_of m (writes_of walk.runs) at walk.keys
  same_rows =
      ap (rows_of m (writes_of walk.runs) at) moved_keys
      ∙ subst (λ (runs : List Contents). rows_of m (writes_of runs) at (keys_ahead points bound false high) ≡ rows_of m (writes_of runs) at (keys_ahead points key true high)) (ap (λ (w : Walk). w.runs) is)
      (same_given row before behind ahead_too no_row (keys_of points))
      ∙ ap (rows_of m (writes_of walk.runs) at) keys_are

  no_more : length (keys_ahead (points_of (runs_of moved)) bound false high) ≤ length walk.keys
  no_more =
      let le : length (keys_ahead points bound false high) ≤ length (keys_ahead points key true high) = no_more_given row before behind ahead_too no_row (keys_of points) in
      let new : length (keys_ahead (points_of (runs_of moved)) bound false high) ≡ length (keys_ahead points bound false high) = ap length moved_keys in
      let old : length (keys_ahead points key true high) ≡ length walk.keys = ap length keys_are in
      omega (arith, le, new, old)

  pub skips : Skips m at walk (walk_at bound false high (runs_of moved))
  skips = record { rows = same_rows; shorter = no_more; runs = same_runs }
