-- A range lies over the pieces from one number to below another.
use Rattle.std.proofs.Common.{◌≡◌, ℕ, zero, suc, ◌+◌, ◌-◌, ◌<◌, ◌≤◌, Bool, true, false, cond, ltb, leb, arith, List, [], ◌∷◌, length, get_or, map, filter, refl, sym, ap, ◌∙◌}
use Rattle.std.specs.Prelude.{◌&&◌, not}
use Rattle.std.specs.List.{AllByRecursion, range_with_len, count_by}
use Rattle.std.specs.List.Sorted.{IsStrictlySortedBy, IsPartitionedBy}
use Rattle.std.specs.declared.cmp.Ordering.{Ordering}
use Rattle.std.specs.declared.cmp.Ordering.TheVariants.{Less, Equal, Greater}
use Rattle.std.specs.Ordering.{is_lt, is_le, ordering_reverse}
use Rattle.std.proofs.lemmas.Bool.{false≢true}
use Rattle.std.proofs.lemmas.Bool.Decides.{nat_tests}
use Rattle.std.proofs.lemmas.Cmp.{nat_list_cmp_total}
use Rattle.std.proofs.lemmas.List.Sums.{sum_by-cons}
use Rattle.uc_bytes.specs.Bytes.{bytes_cmp}
use Rattle.uc_run_entry.specs.Cutting.{RangeOf, Piece, spans, pieces, falling, fragment_over}
use Rattle.uc_run_entry.specs.Spanning.{span_of, has_pieces, spans_of, with_seqs}
use Rattle.uc_run_entry.proofs.Over.{lt_of, lt_le}
use Rattle.uc_run_entry.proofs.Partitions.{partitioned}
use Rattle.uc_run_entry.specs.declared.span.Span.{Span}
use Rattle.uc_run_entry.specs.Spans.{stands_in, seqs_in, listed}

-- ---- the elements that a test passes, where they come first

next_below : (i n : ℕ) (b : Bool) → ltb i n ≡ b → ltb (suc i) (suc n) ≡ b
next_below i n true e = grind (arith, nat_tests)
next_below i n false e = grind (arith, nat_tests)

none_below : (i : ℕ) → ltb i 0 ≡ false
none_below i = grind (arith, nat_tests)

module _ {X : Type 0} (test : X → Bool) where
  abbrev bit : X → ℕ
  bit x = cond (test x) 1 0

  count_none : (xs : List X) → ((j : ℕ) (d : X) → j < length xs → test (get_or xs j d) ≡ false) → count_by test xs ≡ 0
  count_none [] none = refl
  count_none (x ∷ xs) none =
      let here : bit x ≡ 0 = ap (λ b. cond b 1 0) (none 0 x (omega arith)) in
      let rest : count_by test xs ≡ 0 = count_none xs (λ j d l. none (suc j) d (omega (arith, l))) in
      let sum : count_by test (x ∷ xs) ≡ bit x + count_by test xs = sum_by-cons bit x xs in
      omega (arith, here, rest, sum)

  later_fails : (x : X) (xs : List X) → IsPartitionedBy test (x ∷ xs) → test x ≡ false → (j : ℕ) (d : X) → j < length xs → (b : Bool) → test (get_or xs j d) ≡ b → test (get_or xs j d) ≡ false
  later_fails x xs parted fails j d l false e = e
  later_fails x xs parted fails j d l true e = absurd (false≢true (sym fails ∙ parted 0 (suc j) d (omega arith) (omega (arith, l)) e))

  all_fail : (x : X) (xs : List X) → IsPartitionedBy test (x ∷ xs) → test x ≡ false → (j : ℕ) (d : X) → j < length (x ∷ xs) → test (get_or (x ∷ xs) j d) ≡ false
  all_fail x xs parted e zero d l = e
  all_fail x xs parted e (suc j) d l = later_fails x xs parted e j d (omega (arith, l)) (test (get_or xs j d)) refl

  abbrev IsFront : List X → Type 0
  IsFront xs = (i : ℕ) (d : X) → i < length xs → ltb i (count_by test xs) ≡ test (get_or xs i d)

  front_more : (x : X) (xs : List X) → IsFront xs → test x ≡ true → IsFront (x ∷ xs)
  front_more x xs front e zero d l =
      let sum : count_by test (x ∷ xs) ≡ bit x + count_by test xs = sum_by-cons bit x xs in
      let here : bit x ≡ 1 = ap (λ b. cond b 1 0) e in
      let some : 0 < count_by test (x ∷ xs) = omega (arith, sum, here) in
      let passes : ltb 0 (count_by test (x ∷ xs)) ≡ true = grind (arith, nat_tests) in
      passes ∙ sym e
  front_more x xs front e (suc i) d l =
      let sum : count_by test (x ∷ xs) ≡ bit x + count_by test xs = sum_by-cons bit x xs in
      let here : bit x ≡ 1 = ap (λ b. cond b 1 0) e in
      let more : count_by test (x ∷ xs) ≡ suc (count_by test xs) = omega (arith, sum, here) in
      ap (ltb (suc i)) more ∙ next_below i (count_by test xs) (test (get_or xs i d)) (front i d (omega (arith, l)))

  front_none : (x : X) (xs : List X) → IsPartitionedBy test (x ∷ xs) → test x ≡ false → IsFront (x ∷ xs)
  front_none x xs parted e i d l =
      let none : count_by test (x ∷ xs) ≡ 0 = count_none (x ∷ xs) (all_fail x xs parted e) in
      ap (ltb i) none ∙ none_below i ∙ sym (all_fail x xs parted e i d l)

  front_by : (x : X) (xs : List X) → IsPartitionedBy test (x ∷ xs) → IsFront xs → (b : Bool) → test x ≡ b → IsFront (x ∷ xs)
  front_by x xs parted front true e = front_more x xs front e
  front_by x xs parted front false e = front_none x xs parted e

  parted_rest : (x : X) (xs : List X) → IsPartitionedBy test (x ∷ xs) → IsPartitionedBy test xs
  parted_rest x xs parted i j d le l e = parted (suc i) (suc j) d (omega (arith, le)) (omega (arith, l)) e

  -- it passes the element at a place exactly where the place is below their count
  pub passes_front : (xs : List X) → IsPartitionedBy test xs → IsFront xs
  passes_front [] parted i d l = absurd (omega (arith, l))
  passes_front (x ∷ xs) parted i d l = front_by x xs parted (passes_front xs (parted_rest x xs parted)) (test x) refl i d l

-- ---- of elements that are seen as others

module _ {X Y : Type 0} (f : X → Y) where
  all_of_map : (P : Y → Type 0) (xs : List X) → AllByRecursion P (map f xs) → AllByRecursion (λ x. P (f x)) xs
  all_of_map P [] h = tt
  all_of_map P (x ∷ xs) h = (h.0, all_of_map P xs h.1)

  pub sorted_of_map : (cmp : Y → Y → Ordering) (xs : List X) → IsStrictlySortedBy cmp (map f xs) → IsStrictlySortedBy (λ x y. cmp (f x) (f y)) xs
  unfolding IsStrictlySortedBy
  sorted_of_map cmp [] h = tt
  sorted_of_map cmp (x ∷ xs) h = (all_of_map (λ y. cmp (f x) y ≡ Less) xs h.0, sorted_of_map cmp xs h.1)

  pub count_of_map : (p : Y → Bool) (xs : List X) → count_by p (map f xs) ≡ count_by (λ x. p (f x)) xs
  count_of_map p [] = refl
  count_of_map p (x ∷ xs) =
      sum_by-cons (λ y. cond (p y) 1 0) (f x) (map f xs)
      ∙ ap (λ n. cond (p (f x)) 1 0 + n) (count_of_map p xs)
      ∙ sym (sum_by-cons (λ y. cond (p (f y)) 1 0) x xs)

-- ---- the order of cut points

abbrev Cuts : List (List ℕ) → Type 0
Cuts cuts = IsStrictlySortedBy bytes_cmp cuts

below_down : (key x y : List ℕ) → bytes_cmp x y ≡ Less → is_lt (bytes_cmp y key) ≡ true → is_lt (bytes_cmp x key) ≡ true
below_down key x y less e = ap is_lt (nat_list_cmp_total.trans x y key less (lt_of key y key e))

up_to_down : (key x y : List ℕ) → bytes_cmp x y ≡ Less → is_le (bytes_cmp y key) ≡ true → is_le (bytes_cmp x key) ≡ true
up_to_down key x y less e = ap is_le (lt_le key x y key less (bytes_cmp y key) refl e)

abbrev is_below : List ℕ → List ℕ → Bool
is_below key cut = is_lt (bytes_cmp cut key)

abbrev is_up_to : List ℕ → List ℕ → Bool
is_up_to key cut = is_le (bytes_cmp cut key)

pub below_parted : {X : Type 0} (f : X → List ℕ) (key : List ℕ) (xs : List X) → Cuts (map f xs) → IsPartitionedBy (λ x. is_below key (f x)) xs
below_parted f key xs sorted = partitioned (λ x. is_below key (f x)) (λ x y. bytes_cmp (f x) (f y)) (λ x y less e. below_down key (f x) (f y) less e) xs (sorted_of_map f bytes_cmp xs sorted)

pub up_to_parted : {X : Type 0} (f : X → List ℕ) (key : List ℕ) (xs : List X) → Cuts (map f xs) → IsPartitionedBy (λ x. is_up_to key (f x)) xs
up_to_parted f key xs sorted = partitioned (λ x. is_up_to key (f x)) (λ x y. bytes_cmp (f x) (f y)) (λ x y less e. up_to_down key (f x) (f y) less e) xs (sorted_of_map f bytes_cmp xs sorted)

-- ---- a piece by its number

pub length-pieces : (cuts : List (List ℕ)) → length (pieces cuts) ≡ length cuts - 1
length-pieces [] = refl
length-pieces (c ∷ []) = refl
length-pieces (c ∷ d ∷ cuts) = ap suc (length-pieces (d ∷ cuts)) ∙ (let e : suc (suc (length cuts) - 1) ≡ suc (suc (length cuts)) - 1 = omega arith in e)

pub piece_at : (cuts : List (List ℕ)) (i : ℕ) (d : List ℕ) → i + 1 < length cuts → get_or (pieces cuts) i (d, d) ≡ (get_or cuts i d, get_or cuts (i + 1) d)
piece_at [] i d l = absurd (omega (arith, l))
piece_at (c ∷ []) i d l = absurd (omega (arith, l))
piece_at (b ∷ c ∷ cuts) zero d l = refl
piece_at (b ∷ c ∷ cuts) (suc i) d l =
    piece_at (c ∷ cuts) i d (omega (arith, l))
    ∙ ap (λ k. (get_or (c ∷ cuts) i d, get_or (b ∷ c ∷ cuts) k d)) (let e : suc (i + 1) ≡ suc i + 1 = omega arith in e)

-- ---- which pieces a range lies over

at_or_above : (x y : List ℕ) (b : Bool) → is_lt (bytes_cmp y x) ≡ b → is_le (bytes_cmp x y) ≡ not b
at_or_above x y b e = ap is_le (nat_list_cmp_total.antisymm x y) ∙ by (bytes_cmp y x) b e
  where
    by : (o : Ordering) (b : Bool) → is_lt o ≡ b → is_le (ordering_reverse o) ≡ not b
    by Less b e = ap not e
    by Equal b e = ap not e
    by Greater b e = ap not e

not_below : (n i : ℕ) (b : Bool) → ltb i n ≡ b → leb n i ≡ not b
not_below n i true e = grind (arith, nat_tests)
not_below n i false e = grind (arith, nat_tests)

one_less : (n i : ℕ) (b : Bool) → ltb (i + 1) n ≡ b → ltb i (n - 1) ≡ b
one_less n i true e = grind (arith, nat_tests)
one_less n i false e = grind (arith, nat_tests)

module _ (cuts : List (List ℕ)) (sorted : Cuts cuts) (r : RangeOf) where
  begins_by : (i : ℕ) (d : List ℕ) → i < length cuts → leb (span_of cuts r).first i ≡ is_le (bytes_cmp r.begin (get_or cuts i d))
  begins_by i d l =
      let front : ltb i (count_by (is_below r.begin) cuts) ≡ is_below r.begin (get_or cuts i d) = passes_front (is_below r.begin) cuts (partitioned (is_below r.begin) bytes_cmp (below_down r.begin) cuts sorted) i d l in
      not_below (span_of cuts r).first i (is_below r.begin (get_or cuts i d)) front
      ∙ sym (at_or_above r.begin (get_or cuts i d) (is_below r.begin (get_or cuts i d)) refl)

  ends_above : (i : ℕ) (d : List ℕ) → i + 1 < length cuts → ltb i (span_of cuts r).end ≡ is_le (bytes_cmp (get_or cuts (i + 1) d) r.end)
  ends_above i d l =
      let front : ltb (i + 1) (count_by (is_up_to r.end) cuts) ≡ is_up_to r.end (get_or cuts (i + 1) d) = passes_front (is_up_to r.end) cuts (partitioned (is_up_to r.end) bytes_cmp (up_to_down r.end) cuts sorted) (i + 1) d l in
      one_less (count_by (is_up_to r.end) cuts) i (is_up_to r.end (get_or cuts (i + 1) d)) front

  pub lies_over : (i : ℕ) (d : List ℕ) → i + 1 < length cuts → stands_in i (span_of cuts r) ≡ spans (get_or (pieces cuts) i (d, d)) r
  lies_over i d l =
      (λ j. begins_by i d (omega (arith, l)) j && ends_above i d l j)
      ∙ ap (λ (p : Piece). spans p r) (sym (piece_at cuts i d l))

-- ---- the sequences over a piece

stands_within : (i : ℕ) (s : Span) → stands_in i s ≡ true → has_pieces s ≡ true
stands_within i s e = by (leb s.first i) (ltb i s.end) refl refl e
  where
    by : (a b : Bool) → leb s.first i ≡ a → ltb i s.end ≡ b → (a && b) ≡ true → has_pieces s ≡ true
    by true true f g e =
        let low : s.first ≤ i = grind (arith, nat_tests) in
        let high : i < s.end = grind (arith, nat_tests) in
        let lt : s.first < s.end = omega (arith, low, high) in
        grind (arith, nat_tests)
    by true false f g e = absurd (false≢true e)
    by false b f g e = absurd (false≢true e)

abbrev seq_of : Span → ℕ
seq_of s = s.seq

-- a span in front of others, that stands in a fragment only where it has pieces
put_front : (i : ℕ) (s : Span) (ss : List Span) (a b : Bool) → has_pieces s ≡ a → stands_in i s ≡ b → filter (stands_in i) (cond a (s ∷ ss) ss) ≡ cond b (s ∷ filter (stands_in i) ss) (filter (stands_in i) ss)
put_front i s ss true b e f = ap (λ c. cond c (s ∷ filter (stands_in i) ss) (filter (stands_in i) ss)) f
put_front i s ss false true e f = absurd (false≢true (sym e ∙ stands_within i s f))
put_front i s ss false false e f = refl

cond_seqs : (s : Span) (r : RangeOf) (ss : List Span) (rs : List RangeOf) (b : Bool) → s.seq ≡ r.seq → map seq_of ss ≡ map (λ r. r.seq) rs → map seq_of (cond b (s ∷ ss) ss) ≡ map (λ r. r.seq) (cond b (r ∷ rs) rs)
cond_seqs s r ss rs true e h = (λ j. e j ∷ h j)
cond_seqs s r ss rs false e h = h

module _ (cuts : List (List ℕ)) (sorted : Cuts cuts) (i : ℕ) (d : List ℕ) (l : i + 1 < length cuts) where
  abbrev here : Piece
  here = get_or (pieces cuts) i (d, d)

  pub seqs_there : (ranges : List RangeOf) → seqs_in i (spans_of cuts ranges) ≡ map (λ r. r.seq) (filter (spans here) ranges)
  seqs_there [] = refl
  seqs_there (r ∷ rs) =
      ap (map seq_of) (put_front i (span_of cuts r) (spans_of cuts rs) (has_pieces (span_of cuts r)) (spans here r) refl (lies_over cuts sorted r i d l))
      ∙ cond_seqs (span_of cuts r) r (filter (stands_in i) (spans_of cuts rs)) (filter (spans here) rs) (spans here r) refl (seqs_there rs)

-- ---- pieces with the lists of spans

-- lists by numbers from one on are those of pieces
with_ranges : (f : ℕ → List ℕ) (g : Piece → List ℕ) (ps : List Piece) (from : ℕ) (d : Piece) → ((i : ℕ) → i < length ps → f (from + i) ≡ g (get_or ps i d)) →
    with_seqs ps (map f (range_with_len from (length ps))) ≡ map (λ p. record { begin = p.0; end = p.1; seqs = g p }) ps
with_ranges f g [] from d same = refl
with_ranges f g (p ∷ ps) from d same =
    let first : f from ≡ g p = ap f (let e : from ≡ from + 0 = omega arith in e) ∙ same 0 (omega arith) in
    let later : (i : ℕ) → i < length ps → f ((from + 1) + i) ≡ g (get_or ps i d) = λ i l. ap f (let e : (from + 1) + i ≡ from + suc i = omega arith in e) ∙ same (suc i) (omega (arith, l)) in
    (λ j. record { begin = p.0; end = p.1; seqs = first j } ∷ with_ranges f g ps (from + 1) d later j)

pub spanned : (cuts : List (List ℕ)) → Cuts cuts → (ranges : List RangeOf) → with_seqs (pieces cuts) (listed (length cuts - 1) (spans_of cuts ranges)) ≡ map (fragment_over ranges) (pieces cuts)
spanned cuts sorted ranges =
    ap (λ n. with_seqs (pieces cuts) (listed n (spans_of cuts ranges))) (sym (length-pieces cuts))
    ∙ with_ranges (λ i. falling (seqs_in i (spans_of cuts ranges))) (λ p. falling (map (λ r. r.seq) (filter (spans p) ranges))) (pieces cuts) 0 ([], [])
    (λ i l. let m : i + 1 < length cuts = (let long : length (pieces cuts) ≡ length cuts - 1 = length-pieces cuts in omega (arith, l, long)) in
    ap (λ k. falling (seqs_in k (spans_of cuts ranges))) (let e : 0 + i ≡ i = omega arith in e) ∙ ap falling (seqs_there cuts sorted i [] m ranges))
