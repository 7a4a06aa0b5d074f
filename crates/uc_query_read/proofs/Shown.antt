-- A scan shows the same rows whether it goes over the keys of all points or over those that a put or a merge names.
use Rattle.std.proofs.Common.{◌≡◌, ℕ, ◌≤◌, Bool, true, false, cond, List, [], ◌∷◌, ◌++◌, map, take, filter, filter_map, Option, Some, None, option_map, Any, Contains, refl, sym, ap, ◌∙◌, subst}
use Rattle.std.specs.Prelude.{◌↔◌, not, ◌&&◌, reverse, Result, IfOk}
use Rattle.std.specs.List.{AllByRecursion, cons_option, flat_map}
use Rattle.std.specs.List.Sorted.{IsStrictlySortedBy, IsPermutation}
use Rattle.std.specs.declared.alloc.AllocError.{AllocError}
use Rattle.std.specs.declared.cmp.Ordering.{Ordering}
use Rattle.std.specs.declared.cmp.Ordering.TheVariants.{Less, Equal, Greater}
use Rattle.std.specs.Ordering.{is_lt, is_le, ordering_reverse}
use Rattle.std.proofs.lemmas.Bool.{false≢true}
use Rattle.std.proofs.lemmas.Cmp.{nat_list_cmp_total}
use Rattle.std.proofs.lemmas.List.{append-nil, reverse-append}
use Rattle.std.proofs.lemmas.Result.{IfOk-weaker}
use Rattle.std.proofs.lemmas.List.Elements.{filter_map-append, All-contains, All-contains_itself, All-from_recursion, recursion_from_All}
use Rattle.std.proofs.lemmas.List.Kept.{IsStrictlySortedBy-filter}
use Rattle.std.proofs.lemmas.Map.Lookups.{exact_bytes}
use Rattle.uc_bytes.specs.Bytes.{bytes_cmp}
use Rattle.uc_oper.specs.Operation.{Operation}
use Rattle.uc_bytes.specs.declared.op.Op.TheVariants as op
use Rattle.uc_bytes.specs.declared.write.Write.{Write}
use Rattle.uc_model.specs.Meaning.{Gives, value_of}
use Rattle.uc_run_entry.specs.declared.entry.Entry.{Entry}
use Rattle.uc_run_entry.specs.declared.entry.What.{What}
use Rattle.uc_run_entry.specs.declared.entry.What.TheVariants.{Put, Delete, Merge}
use Rattle.uc_run_entry.specs.Fragment.{Fragment}
use Rattle.uc_run_entry.specs.Run.{Contents}
use Rattle.uc_run_entry.specs.PlainList.{op_of, point_write, fragment_writes, plain_list}
use Rattle.uc_run_entry.specs.PlainList as plain
use Rattle.uc_run_entry.proofs.SameSets.{permutation_passes, same_sorted}
use Rattle.uc_compact.specs.Groups.{keys_of}
use Rattle.uc_compact.proofs.Lists.{all-front, all-back, all-unmapped}
use Rattle.uc_query_read.specs.Answers.{is_below, is_in_range, named_keys, rows_of, first_rows}
use Rattle.uc_rows.specs.Rising.{KeysRise}
use Rattle.uc_query_read.specs.Scans.{IsNamed}
use Rattle.uc_compact.specs.Inputs.{writes_of, points_of}
use Rattle.uc_compact.proofs.NestedLists.{all-append, all-map, all-mapped, all-flat_map}
use Rattle.uc_query_read.specs.Ahead.{is_ahead, keys_ahead}
use Rattle.uc_query_read.proofs.Walking.{of_passing, to_passing, keys_sorted, each_key}

-- ---- a key that a put or a merge names is the key of a point

module _ (ks : List (List ℕ)) (x : List ℕ) where
  -- a write that gives the key something names one of the keys
  abbrev NamesOne : Write → Type 0
  NamesOne w = Gives x w.op → Contains ks x

  point_names : (key : List ℕ) (what : What) → Contains ks key → Gives x (op_of key what) → Contains ks x
  point_names key (Put value) c gives = subst (Contains ks) gives c
  point_names key Delete c gives = absurd gives
  point_names key (Merge operand) c gives = subst (Contains ks) gives c

  range_names : (f : Fragment) (seqs : List ℕ) → AllByRecursion NamesOne (map (λ seq. record { seq = seq; op = op.DeleteRange f.begin f.end }) seqs)
  range_names f [] = tt
  range_names f (seq ∷ seqs) = ((λ gives. absurd gives), range_names f seqs)

  ranges_name : (fs : List Fragment) → AllByRecursion (λ f. AllByRecursion NamesOne (fragment_writes f)) fs
  ranges_name [] = tt
  ranges_name (f ∷ fs) = (range_names f f.seqs, ranges_name fs)

  points_name : (ps : List Entry) → AllByRecursion (λ p. Contains ks p.key) ps → AllByRecursion NamesOne (map point_write ps)
  points_name ps h =
      all-mapped point_write NamesOne ps (all-map (λ (p : Entry). Contains ks p.key) (λ (p : Entry). NamesOne (point_write p)) (λ p c. point_names p.key p.what c) ps h)

  module _ (moved : (run : Contents) → IsPermutation (plain.writes_of run) (plain_list run)) where
    runs_name : (runs : List Contents) → AllByRecursion (λ p. Contains ks p.key) (points_of runs) → AllByRecursion NamesOne (writes_of runs)
    runs_name [] h = tt
    runs_name (r ∷ rs) h =
        all-append NamesOne (writes_of rs) (plain_list r)
        (runs_name rs (all-back (λ (p : Entry). Contains ks p.key) r.points (points_of rs) h))
        (permutation_passes (plain.writes_of r) (plain_list r) (moved r) NamesOne
        (all-append NamesOne (map point_write r.points) (flat_map fragment_writes r.fragments)
        (points_name r.points (all-front (λ (p : Entry). Contains ks p.key) r.points (points_of rs) h))
        (all-flat_map fragment_writes NamesOne r.fragments (ranges_name r.fragments))))

abbrev keys : List Entry → List (List ℕ)
keys points = map (λ p. p.key) points

named_is_a_key : ((run : Contents) → IsPermutation (plain.writes_of run) (plain_list run)) → (runs : List Contents) (x : List ℕ) → Any (λ w. Gives x w.op) (writes_of runs) → Contains (keys (points_of runs)) x
named_is_a_key moved runs x some =
    let ks = keys (points_of runs) in
    let own = all-unmapped (λ (p : Entry). p.key) (Contains ks) (points_of runs) (recursion_from_All (Contains ks) ks (All-contains_itself ks)) in
    All-contains (NamesOne ks x) (writes_of runs) some.1 (All-from_recursion (NamesOne ks x) (writes_of runs) (runs_name ks x moved runs own)) (some.0, some.2, some.3) some.4

-- ---- the range of a scan is what is ahead at its start

le_is_not_lt : (x y : List ℕ) → is_le (bytes_cmp x y) ≡ not (is_lt (bytes_cmp y x))
le_is_not_lt x y = ap is_le (nat_list_cmp_total.antisymm x y) ∙ by (bytes_cmp y x)
  where
    by : (o : Ordering) → is_le (ordering_reverse o) ≡ not (is_lt o)
    by Less = refl
    by Equal = refl
    by Greater = refl

range_is_ahead : (low : List ℕ) (high : Option (List ℕ)) (x : List ℕ) → is_in_range low high x ≡ is_ahead low false high x
range_is_ahead low high x = ap (λ b. b && is_below x high) (le_is_not_lt low x)

-- ---- what a list turned round gives

module _ {X Y : Type 0} (h : X → Option Y) where
  with_one : (o : Option Y) (ys : List Y) → reverse ys ++ cons_option o [] ≡ reverse (cons_option o ys)
  with_one None ys = append-nil (reverse ys)
  with_one (Some y) ys = sym (reverse-append (y ∷ []) ys)

  pub filter_map-reverse : (xs : List X) → filter_map h (reverse xs) ≡ reverse (filter_map h xs)
  filter_map-reverse [] = refl
  filter_map-reverse (x ∷ xs) =
      ap (filter_map h) (reverse-append (x ∷ []) xs)
      ∙ filter_map-append h (reverse xs) (x ∷ [])
      ∙ ap (λ (ys : List Y). ys ++ cons_option (h x) []) (filter_map-reverse xs)
      ∙ with_one (h x) (filter_map h xs)

-- ---- rows are of keys with a value

module _ (f : List ℕ → Option (List ℕ)) where
  abbrev some_value : Option (List ℕ) → Bool
  some_value None = false
  some_value (Some value) = true

  abbrev has_value : List ℕ → Bool
  has_value key = some_value (f key)

  abbrev pub row_at : List ℕ → Option (List ℕ × List ℕ)
  row_at key = option_map (λ value. (key, value)) (f key)

  value_there : (key : List ℕ) (o : Option (List ℕ)) → f key ≡ o → some_value o ≡ true → (value : List ℕ) × (f key ≡ Some value)
  value_there key None e has = absurd (false≢true has)
  value_there key (Some value) e has = (value, e)

  row_by : (key : List ℕ) (ks : List (List ℕ)) (o : Option (List ℕ)) → f key ≡ o → filter_map row_at (filter has_value ks) ≡ filter_map row_at ks →
      filter_map row_at (cond (some_value o) (key ∷ filter has_value ks) (filter has_value ks)) ≡ cons_option (option_map (λ value. (key, value)) o) (filter_map row_at ks)
  row_by key ks None e rest = rest
  row_by key ks (Some value) e rest =
      ap (λ (o : Option (List ℕ)). cons_option (option_map (λ (v : List ℕ). (key, v)) o) (filter_map row_at (filter has_value ks))) e
      ∙ ap (λ (rows : List (List ℕ × List ℕ)). (key, value) ∷ rows) rest

  rows_of_valued : (ks : List (List ℕ)) → filter_map row_at (filter has_value ks) ≡ filter_map row_at ks
  rows_of_valued [] = refl
  rows_of_valued (key ∷ ks) = row_by key ks (f key) refl (rows_of_valued ks)

each : {X : Type 0} (P : X → Type 0) → ((x : X) → P x) → (xs : List X) → AllByRecursion P xs
each P h [] = tt
each P h (x ∷ xs) = (h x, each P h xs)

module _ (m : Operation)
    (moved : (run : Contents) → IsPermutation (plain.writes_of run) (plain_list run))
    (rise : (ws : List Write) (low : List ℕ) (high : Option (List ℕ)) → IsStrictlySortedBy bytes_cmp (named_keys ws low high))
    (named : (ws : List Write) (low : List ℕ) (high : Option (List ℕ)) (key : List ℕ) → Contains (named_keys ws low high) key ↔ IsNamed ws low high key)
    (given : (ws : List Write) (key value : List ℕ) (at : ℕ) → value_of m ws key at ≡ Some value → Any (λ w. (w.seq ≤ at) × Gives key w.op) ws)
    (runs : List Contents) (low : List ℕ) (high : Option (List ℕ)) (at : ℕ) where
  abbrev writes : List Write
  writes = writes_of runs

  abbrev points : List Entry
  points = points_of runs

  abbrev value : List ℕ → Option (List ℕ)
  value key = value_of m writes key at

  abbrev has : List ℕ → Bool
  has key = has_value value key

  abbrev ahead : List ℕ → Bool
  ahead key = is_ahead low false high key

  abbrev names : List (List ℕ)
  names = named_keys writes low high

  -- what holds of the keys ahead that have a value holds of those that are named
  to_named : (P : List ℕ → Type 0) → AllByRecursion P (filter has (filter ahead (keys_of points))) → AllByRecursion P (filter has names)
  to_named P h =
      let own = each_key (λ x. ahead x ≡ true → has x ≡ true → P x) points
      (of_passing (λ x. has x ≡ true → P x) ahead (keys_of points) (of_passing P has (filter ahead (keys_of points)) h)) in
      let one = λ (x : List ℕ) (c : Contains names x).
      let n = (named writes low high x).0 c in
      All-contains (λ y. ahead y ≡ true → has y ≡ true → P y) (keys points) x (All-from_recursion (λ y. ahead y ≡ true → has y ≡ true → P y) (keys points) own) (named_is_a_key moved runs x n.1) (sym (range_is_ahead low high x) ∙ n.0) in
      to_passing P has names (all-map (Contains names) (λ x. has x ≡ true → P x) one names (recursion_from_All (Contains names) names (All-contains_itself names)))

  -- a key in the range that has a value is named
  is_named : (x : List ℕ) → ahead x ≡ true → has x ≡ true → Contains names x
  is_named x within valued =
      let there = value_there value x (value x) refl valued in
      let some = given writes x there.0 at there.1 in
      (named writes low high x).1 (range_is_ahead low high x ∙ within, (some.0, some.1, some.2, some.3, some.4.1))

  to_ahead : (P : List ℕ → Type 0) → AllByRecursion P (filter has names) → AllByRecursion P (filter has (filter ahead (keys_of points)))
  to_ahead P h =
      let own = All-from_recursion (λ x. has x ≡ true → P x) names (of_passing P has names h) in
      to_passing P has (filter ahead (keys_of points))
      (to_passing (λ x. has x ≡ true → P x) ahead (keys_of points)
      (each (λ x. ahead x ≡ true → has x ≡ true → P x) (λ x within valued. All-contains (λ y. has y ≡ true → P y) names x own (is_named x within valued) valued) (keys_of points)))

  same_valued : filter has (filter ahead (keys_of points)) ≡ filter has names
  same_valued =
      same_sorted bytes_cmp nat_list_cmp_total exact_bytes (filter has (filter ahead (keys_of points))) (filter has names)
      (IsStrictlySortedBy-filter bytes_cmp has (filter ahead (keys_of points)) (IsStrictlySortedBy-filter bytes_cmp ahead (keys_of points) (keys_sorted points)))
      (IsStrictlySortedBy-filter bytes_cmp has names (rise writes low high))
      to_named to_ahead

  same_rows : rows_of m writes at (keys_ahead points low false high) ≡ rows_of m writes at names
  same_rows = sym (rows_of_valued value (filter ahead (keys_of points))) ∙ ap (filter_map (row_at value)) same_valued ∙ rows_of_valued value names

  -- the first rows of the keys ahead are those of a scan
  pub rows_shown : (limit : ℕ) (rows : List (List ℕ × List ℕ)) → rows ≡ first_rows m writes at limit (keys_ahead points low false high) → rows ≡ first_rows m writes at limit names
  rows_shown limit rows made = made ∙ ap (take limit) same_rows

  -- so their keys rise
  pub rows_rise : (limit : ℕ) (rows : List (List ℕ × List ℕ)) → rows ≡ first_rows m writes at limit (keys_ahead points low false high) → KeysRise (first_rows m writes at limit names) → KeysRise rows
  rows_rise limit rows made rise = subst KeysRise (sym (rows_shown limit rows made)) rise

  -- and so are those against the order
  pub rows_shown_back : (limit : ℕ) (made : Result (List (List ℕ × List ℕ)) AllocError) → IfOk made (λ rows. rows ≡ first_rows m writes at limit (reverse (keys_ahead points low false high))) → IfOk made (λ rows. rows ≡ first_rows m writes at limit (reverse names))
  rows_shown_back limit made h =
      IfOk-weaker made _ _ (λ rows is. is ∙ ap (take limit) (filter_map-reverse (row_at value) (keys_ahead points low false high) ∙ ap reverse same_rows ∙ sym (filter_map-reverse (row_at value) names))) h
