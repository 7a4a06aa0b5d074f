-- Sorted spans that are joined: they say the same, with gaps between those of one sequence.
use Rattle.std.proofs.Common.{◌≡◌, ◌≢◌, ◌==◌, ℕ, suc, ◌+◌, ◌<◌, ◌≤◌, Bool, true, false, cond, ltb, leb, eqb, max, arith, List, [], ◌∷◌, length, get_or, map, filter, refl, sym, ◌∙◌, subst}
use Rattle.std.specs.Prelude.{◌&&◌}
use Rattle.std.specs.List.{AllByRecursion}
use Rattle.std.specs.List.Sorted.{IsStrictlySortedBy, IsPermutation}
use Rattle.std.specs.declared.cmp.Ordering.TheVariants.{Less, Equal, Greater}
use Rattle.std.specs.Ordering.{nat_cmp, flip_args, is_lt, ordering_then}
use Rattle.std.specs.Cmp.{IsTotalOrder}
use Rattle.std.proofs.lemmas.Bool.{false≢true}
use Rattle.std.proofs.lemmas.Bool.Decides.{nat_tests}
use Rattle.uc_run_entry.specs.declared.span.Span.{Span}
use Rattle.uc_run_entry.specs.Spans.{IsWithin, stands_in, seqs_in, falling, IsFalling}
use Rattle.uc_run_entry.specs.Joined.{Follows, AreSorted, IsBehind, AreJoined, joined_onto, joined, SayWhat}
use Rattle.std.proofs.lemmas.List.Sorted.{IsPermutation-sym}
use Rattle.std.proofs.lemmas.Cmp.{nat_cmp_total, back_total}
use Rattle.uc_run_entry.proofs.Sets.{sorted_set, all_back}
use Rattle.uc_run_entry.proofs.SameSets.{all_same, permutation_passes, same_sorted, same_set, all_inserted}
use Rattle.uc_run_entry.proofs.Greatest.{SpansDescend, seq_of}

-- ---- what a sort by sequence and first fragment leaves

abbrev pub Neighbours : List Span → Type 0
Neighbours xs = (k : ℕ) (d : Span) → k + 1 < length xs → is_lt (ordering_then (nat_cmp (get_or xs k d).seq (get_or xs (k + 1) d).seq) (nat_cmp (get_or xs (k + 1) d).first (get_or xs k d).first)) ≡ false

follows_by : (s t : Span) (a b c d : Bool) → ltb s.seq t.seq ≡ a → eqb s.seq t.seq ≡ b → ltb t.first s.first ≡ c → is_lt (ordering_then (cond a Less (cond b Equal Greater)) (cond c Less (cond d Equal Greater))) ≡ false → Follows s t
follows_by s t true b c d e f g h = absurd (false≢true (sym h))
follows_by s t false true true d e f g h = absurd (false≢true (sym h))
follows_by s t false true false d e f g h =
    let le : t.seq ≤ s.seq = grind (arith, nat_tests) in
    let first : s.first ≤ t.first = grind (arith, nat_tests) in
    (le, λ same. first)
follows_by s t false false c d e f g h =
    let le : t.seq ≤ s.seq = grind (arith, nat_tests) in
    let other : s.seq ≡ t.seq → ⊥ = λ same. grind (arith, nat_tests) in
    (le, λ same. absurd (other (sym same)))

follows_follows : (r s t : Span) → Follows r s → Follows s t → Follows r t
follows_follows r s t h k = (omega (arith, h.0, k.0), λ same. omega (arith, h.0, k.0, h.1, k.1, same))

all_follow : (r s : Span) (ss : List Span) → Follows r s → AllByRecursion (Follows s) ss → AllByRecursion (Follows r) ss
all_follow r s ss h k = all_same (λ t. follows_follows r s t h) ss k

later_neighbours : (x : Span) (xs : List Span) → Neighbours (x ∷ xs) → Neighbours xs
later_neighbours x xs h k d l =
    let e : suc k + 1 ≡ suc (k + 1) = omega arith in
    subst (λ m. is_lt (ordering_then (nat_cmp (get_or xs k d).seq (get_or (x ∷ xs) m d).seq) (nat_cmp (get_or (x ∷ xs) m d).first (get_or xs k d).first)) ≡ false) e (h (suc k) d (omega (arith, l)))

pub sorted_from : (xs : List Span) → Neighbours xs → AreSorted xs
sorted_from [] h = tt
sorted_from (x ∷ []) h = (tt, tt)
sorted_from (x ∷ y ∷ ys) h =
    let rest : AreSorted (y ∷ ys) = sorted_from (y ∷ ys) (later_neighbours x (y ∷ ys) h) in
    let here : Follows x y = follows_by x y (ltb x.seq y.seq) (eqb x.seq y.seq) (ltb y.first x.first) (eqb y.first x.first) refl refl refl (h 0 x (omega arith)) in
    ((here, all_follow x y ys here rest.0), rest)

-- ---- two that are joined

abbrev both : Span → Span → Span
both s t = record { seq = s.seq; first = s.first; end = max s.end t.end }

abbrev can : Span → Span → Bool
can s t = t.seq == s.seq && leb t.first s.end

can_same : (s t : Span) → can s t ≡ true → t.seq ≡ s.seq
can_same s t e = grind (arith, nat_tests)

can_near : (s t : Span) → can s t ≡ true → t.first ≤ s.end
can_near s t e = grind (arith, nat_tests)

cannot : (s t : Span) → can s t ≡ false → t.seq ≡ s.seq → s.end < t.first
cannot s t e same = grind (arith, nat_tests)

-- what holds of all spans, and of a span whatever its end, holds of all that are joined
module _ (r : Span) where
  follow_head : (s t : Span) (ts : List Span) (b : Bool) → Follows r s → Follows r t → AllByRecursion (Follows r) (joined_onto (both s t) ts) → AllByRecursion (Follows r) (joined_onto t ts) → AllByRecursion (Follows r) (cond b (joined_onto (both s t) ts) (s ∷ joined_onto t ts))
  follow_head s t ts true h k with_both with_next = with_both
  follow_head s t ts false h k with_both with_next = (h, with_next)

  follow_onto : (s : Span) (ts : List Span) → Follows r s → AllByRecursion (Follows r) ts → AllByRecursion (Follows r) (joined_onto s ts)
  follow_onto s [] h k = (h, tt)
  follow_onto s (t ∷ ts) h k = follow_head s t ts (can s t) h k.0 (follow_onto (both s t) ts h k.1) (follow_onto t ts k.0 k.1)

-- ---- they have gaps

behind_from : (s t u : Span) → IsBehind s t → Follows t u → IsBehind s u
behind_from s t u h k = (omega (arith, h.0, k.0), λ same. omega (arith, h.0, k.0, h.1, k.1, same))

is_behind : (s t : Span) → Follows s t → can s t ≡ false → IsBehind s t
is_behind s t h e = (h.0, cannot s t e)

joined_head : (s t : Span) (ts : List Span) (b : Bool) → can s t ≡ b → s.first < s.end → Follows s t → AllByRecursion (Follows t) ts → AreJoined (joined_onto (both s t) ts) → AreJoined (joined_onto t ts) → AreJoined (cond b (joined_onto (both s t) ts) (s ∷ joined_onto t ts))
joined_head s t ts true e some h rest with_both with_next = with_both
joined_head s t ts false e some h rest with_both with_next = (
  some,
  all_same (λ u. behind_from s t u (is_behind s t h e)) (joined_onto t ts) (follow_onto t t ts (omega arith, λ same. omega arith) rest),
  with_next,
)

joined_gaps : (s : Span) (ts : List Span) → s.first < s.end → AllByRecursion (λ t. t.first < t.end) ts → AllByRecursion (Follows s) ts → AreSorted ts → AreJoined (joined_onto s ts)
joined_gaps s [] some all h k = (some, tt, tt)
joined_gaps s (t ∷ ts) some all h k =
    joined_head s t ts (can s t) refl some h.0 k.0
    (joined_gaps (both s t) ts (omega (arith, some)) all.1 h.1 k.1)
    (joined_gaps t ts all.0 all.1 k.0 k.1)

-- ---- they lie where the others lay

within_head : (n : ℕ) (s t : Span) (ts : List Span) (b : Bool) → IsWithin n s → AllByRecursion (IsWithin n) (joined_onto (both s t) ts) → AllByRecursion (IsWithin n) (joined_onto t ts) → AllByRecursion (IsWithin n) (cond b (joined_onto (both s t) ts) (s ∷ joined_onto t ts))
within_head n s t ts true h with_both with_next = with_both
within_head n s t ts false h with_both with_next = (h, with_next)

within_both : (n : ℕ) (s t : Span) → IsWithin n s → IsWithin n t → IsWithin n (both s t)
within_both n s t h k = (omega (arith, h.0), omega (arith, h.1, k.1))

joined_within : (n : ℕ) (s : Span) (ts : List Span) → IsWithin n s → AllByRecursion (IsWithin n) ts → AllByRecursion (IsWithin n) (joined_onto s ts)
joined_within n s [] h k = (h, tt)
joined_within n s (t ∷ ts) h k = within_head n s t ts (can s t) h (joined_within n (both s t) ts (within_both n s t h k.0) k.1) (joined_within n t ts k.0 k.1)

-- ---- they stand where the others stood

-- what holds of each sequence that stands in a fragment
abbrev pub Holds : (ℕ → Type 0) → ℕ → Span → Type 0
Holds P f s = s.first ≤ f → f < s.end → P s.seq

module _ (P : ℕ → Type 0) (f : ℕ) where
  holds_both : (s t : Span) → can s t ≡ true → Follows s t → Holds P f s → Holds P f t → Holds P f (both s t)
  holds_both s t e h p q low high = by (ltb f s.end) refl
    where
      by : (b : Bool) → ltb f s.end ≡ b → P s.seq
      by true g = p low (grind (arith, nat_tests))
      by false g =
          let ge : s.end ≤ f = grind (arith, nat_tests) in
          subst P (can_same s t e) (q (omega (arith, ge, can_near s t e)) (omega (arith, ge, high)))

  holds_first : (s t : Span) → Holds P f (both s t) → Holds P f s
  holds_first s t h low high = h low (omega (arith, high))

  holds_second : (s t : Span) → can s t ≡ true → Follows s t → Holds P f (both s t) → Holds P f t
  holds_second s t e h k low high = subst P (sym (can_same s t e)) (k (omega (arith, low, h.1 (can_same s t e))) (omega (arith, high)))

  onto_head : (s t : Span) (ts : List Span) (b : Bool) → can s t ≡ b → Follows s t → Holds P f s → Holds P f t →
      (Holds P f (both s t) → AllByRecursion (Holds P f) (joined_onto (both s t) ts)) → (Holds P f t → AllByRecursion (Holds P f) (joined_onto t ts)) →
      AllByRecursion (Holds P f) (cond b (joined_onto (both s t) ts) (s ∷ joined_onto t ts))
  onto_head s t ts true e h p q with_both with_next = with_both (holds_both s t e h p q)
  onto_head s t ts false e h p q with_both with_next = (p, with_next q)

  holds_onto : (s : Span) (ts : List Span) → AllByRecursion (Follows s) ts → AreSorted ts → Holds P f s → AllByRecursion (Holds P f) ts → AllByRecursion (Holds P f) (joined_onto s ts)
  holds_onto s [] h k p q = (p, tt)
  holds_onto s (t ∷ ts) h k p q =
      onto_head s t ts (can s t) refl h.0 p q.0
      (λ r. holds_onto (both s t) ts h.1 k.1 r q.1)
      (λ r. holds_onto t ts k.0 k.1 r q.1)

  back_head : (s t : Span) (ts : List Span) (b : Bool) → can s t ≡ b → Follows s t →
      (AllByRecursion (Holds P f) (joined_onto (both s t) ts) → Holds P f (both s t) × AllByRecursion (Holds P f) ts) →
      (AllByRecursion (Holds P f) (joined_onto t ts) → Holds P f t × AllByRecursion (Holds P f) ts) →
      AllByRecursion (Holds P f) (cond b (joined_onto (both s t) ts) (s ∷ joined_onto t ts)) →
      Holds P f s × (Holds P f t × AllByRecursion (Holds P f) ts)
  back_head s t ts true e h with_both with_next all =
      let rest : Holds P f (both s t) × AllByRecursion (Holds P f) ts = with_both all in
      (holds_first s t rest.0, (holds_second s t e h rest.0, rest.1))
  back_head s t ts false e h with_both with_next all = (all.0, with_next all.1)

  holds_back : (s : Span) (ts : List Span) → AllByRecursion (Follows s) ts → AreSorted ts → AllByRecursion (Holds P f) (joined_onto s ts) → Holds P f s × AllByRecursion (Holds P f) ts
  holds_back s [] h k all = (all.0, tt)
  holds_back s (t ∷ ts) h k all =
      back_head s t ts (can s t) refl h.0
      (λ r. holds_back (both s t) ts h.1 k.1 r)
      (λ r. holds_back t ts k.0 k.1 r)
      all

-- ---- all of it, of sorted spans

module _ (n : ℕ) where
  have_fragments : (ss : List Span) → AllByRecursion (IsWithin n) ss → AllByRecursion (λ s. s.first < s.end) ss
  have_fragments ss h = all_same (λ s w. w.0) ss h

  pub all_joined : (ss : List Span) → AllByRecursion (IsWithin n) ss → AreSorted ss → AreJoined (joined ss)
  all_joined [] h k = tt
  all_joined (s ∷ ss) h k = joined_gaps s ss h.0.0 (have_fragments ss h.1) k.0 k.1

  pub all_within : (ss : List Span) → AllByRecursion (IsWithin n) ss → AllByRecursion (IsWithin n) (joined ss)
  all_within [] h = tt
  all_within (s ∷ ss) h = joined_within n s ss h.0 h.1

pub all_hold : (P : ℕ → Type 0) (f : ℕ) (ss : List Span) → AreSorted ss → AllByRecursion (Holds P f) ss → AllByRecursion (Holds P f) (joined ss)
all_hold P f [] k p = tt
all_hold P f (s ∷ ss) k p = holds_onto P f s ss k.0 k.1 p.0 p.1

pub all_held : (P : ℕ → Type 0) (f : ℕ) (ss : List Span) → AreSorted ss → AllByRecursion (Holds P f) (joined ss) → AllByRecursion (Holds P f) ss
all_held P f [] k p = tt
all_held P f (s ∷ ss) k p = holds_back P f s ss k.0 k.1 p

-- ---- the sequences that stand in a fragment

stands_from : (f : ℕ) (s : Span) → s.first ≤ f → f < s.end → stands_in f s ≡ true
stands_from f s low high = grind (arith, nat_tests)

pub stands_low : (f : ℕ) (s : Span) → stands_in f s ≡ true → s.first ≤ f
stands_low f s e = grind (arith, nat_tests)

pub stands_high : (f : ℕ) (s : Span) → stands_in f s ≡ true → f < s.end
stands_high f s e = grind (arith, nat_tests)

to_head : (P : ℕ → Type 0) (f : ℕ) (s : Span) (ss : List Span) (b : Bool) → stands_in f s ≡ b → AllByRecursion P (map seq_of (cond b (s ∷ ss) ss)) → Holds P f s × AllByRecursion P (map seq_of ss)
to_head P f s ss true e h = ((λ low high. h.0), h.1)
to_head P f s ss false e h = ((λ low high. absurd (false≢true (sym e ∙ stands_from f s low high))), h)

pub to_holds : (P : ℕ → Type 0) (f : ℕ) (ss : List Span) → AllByRecursion P (seqs_in f ss) → AllByRecursion (Holds P f) ss
to_holds P f [] h = tt
to_holds P f (s ∷ ss) h =
    let parts : Holds P f s × AllByRecursion P (seqs_in f ss) = to_head P f s (filter (stands_in f) ss) (stands_in f s) refl h in
    (parts.0, to_holds P f ss parts.1)

from_head : (P : ℕ → Type 0) (f : ℕ) (s : Span) (ss : List Span) (b : Bool) → stands_in f s ≡ b → Holds P f s → AllByRecursion P (map seq_of ss) → AllByRecursion P (map seq_of (cond b (s ∷ ss) ss))
from_head P f s ss true e p h = (p (stands_low f s e) (stands_high f s e), h)
from_head P f s ss false e p h = h

from_holds : (P : ℕ → Type 0) (f : ℕ) (ss : List Span) → AllByRecursion (Holds P f) ss → AllByRecursion P (seqs_in f ss)
from_holds P f [] h = tt
from_holds P f (s ∷ ss) h = from_head P f s (filter (stands_in f) ss) (stands_in f s) refl h.0 (from_holds P f ss h.1)

flipped : IsTotalOrder (flip_args nat_cmp)
flipped = back_total nat_cmp_total

exact_by : (x y : ℕ) (b c : Bool) → ltb y x ≡ b → eqb y x ≡ c → cond b Less (cond c Equal Greater) ≡ Equal → x ≡ y
exact_by x y true c f g h = cc
exact_by x y false true f g h = grind (arith, nat_tests)
exact_by x y false false f g h = cc

exact : (x y : ℕ) → flip_args nat_cmp x y ≡ Equal → x ≡ y
exact x y e = exact_by x y (ltb y x) (eqb y x) refl refl e

module _ (f : ℕ) (given sorted : List Span) (moved : IsPermutation given sorted) (order : AreSorted sorted) where
  given_sorted : (P : ℕ → Type 0) → AllByRecursion (Holds P f) given → AllByRecursion (Holds P f) sorted
  given_sorted P h = permutation_passes given sorted moved (Holds P f) h

  sorted_given : (P : ℕ → Type 0) → AllByRecursion (Holds P f) sorted → AllByRecursion (Holds P f) given
  sorted_given P h = permutation_passes sorted given (IsPermutation-sym given sorted moved) (Holds P f) h

  pub same_seqs : falling (seqs_in f (joined sorted)) ≡ falling (seqs_in f given)
  same_seqs =
      same_set (flip_args nat_cmp) flipped exact (seqs_in f (joined sorted)) (seqs_in f given)
      (λ P h. from_holds P f given (sorted_given P (all_held P f sorted order (to_holds P f (joined sorted) h))))
      (λ P h. from_holds P f (joined sorted) (all_hold P f sorted order (given_sorted P (to_holds P f given h))))

-- sorted spans, joined, say what the others say
pub say_what : (n : ℕ) (given sorted : List Span) → IsPermutation given sorted → AreSorted sorted → AllByRecursion (IsWithin n) given → SayWhat n given (joined sorted)
say_what n given sorted moved order within =
    let lie : AllByRecursion (IsWithin n) sorted = permutation_passes given sorted moved (IsWithin n) within in
    record {
      within = all_within n sorted lie;
      joined = all_joined n sorted lie order;
      same = λ f. same_seqs f given sorted moved order;
    }

-- ---- joined spans give falling sequences

behind_by : (f : ℕ) (s t : Span) (b : Bool) → eqb t.seq s.seq ≡ b → IsBehind s t → f < s.end → t.first ≤ f → t.seq < s.seq
behind_by f s t true e h high low =
    let same : t.seq ≡ s.seq = grind (arith, nat_tests) in
    let gap : s.end < t.first = h.1 same in
    absurd (omega (arith, gap, high, low))
behind_by f s t false e h high low =
    let other : t.seq ≢ s.seq = λ same. grind (arith, nat_tests) in
    let le : t.seq ≤ s.seq = h.0 in
    omega arith

behind_falls : (f : ℕ) (s t : Span) → IsBehind s t → stands_in f s ≡ true → stands_in f t ≡ true → t.seq < s.seq
behind_falls f s t h e g = behind_by f s t (eqb t.seq s.seq) refl h (stands_high f s e) (stands_low f t g)

less_by : (x y : ℕ) (b : Bool) → ltb y x ≡ b → y < x → cond b Less (cond (eqb y x) Equal Greater) ≡ Less
less_by x y true e l = refl
less_by x y false e l =
    let ge : x ≤ y = grind (arith, nat_tests) in
    absurd (omega (arith, ge, l))

less_from : (x y : ℕ) → y < x → flip_args nat_cmp x y ≡ Less
less_from x y l = less_by x y (ltb y x) refl l

below_put : (n f : ℕ) (t : Span) (ss : List Span) (b : Bool) → (stands_in f t ≡ true → flip_args nat_cmp n t.seq ≡ Less) → stands_in f t ≡ b → AllByRecursion (λ m. flip_args nat_cmp n m ≡ Less) (map seq_of ss) → AllByRecursion (λ m. flip_args nat_cmp n m ≡ Less) (map seq_of (cond b (t ∷ ss) ss))
below_put n f t ss true here e h = (here e, h)
below_put n f t ss false here e h = h

below_all : (f : ℕ) (s : Span) (ts : List Span) → stands_in f s ≡ true → AllByRecursion (IsBehind s) ts → AllByRecursion (λ m. flip_args nat_cmp s.seq m ≡ Less) (seqs_in f ts)
below_all f s [] e h = tt
below_all f s (t ∷ ts) e h = below_put s.seq f t (filter (stands_in f) ts) (stands_in f t) (λ g. less_from s.seq t.seq (behind_falls f s t h.0 e g)) refl (below_all f s ts e h.1)

falls_put : (f : ℕ) (s : Span) (ss : List Span) (b : Bool) → stands_in f s ≡ b → (stands_in f s ≡ true → AllByRecursion (λ m. flip_args nat_cmp s.seq m ≡ Less) (map seq_of ss)) → IsFalling (map seq_of ss) → IsFalling (map seq_of (cond b (s ∷ ss) ss))
unfolding IsStrictlySortedBy
falls_put f s ss true e below h = (below e, h)
falls_put f s ss false e below h = h

pub joined_fall : (f : ℕ) (ss : List Span) → AreJoined ss → IsFalling (seqs_in f ss)
unfolding IsStrictlySortedBy
joined_fall f [] h = tt
joined_fall f (s ∷ ss) h = falls_put f s (filter (stands_in f) ss) (stands_in f s) refl (λ e. below_all f s ss e h.1) (joined_fall f ss h.2)

pub falling_falls : (seqs : List ℕ) → IsFalling (falling seqs)
falling_falls seqs = sorted_set (flip_args nat_cmp) flipped seqs

-- so that they need no sorting
pub joined_stay : (f : ℕ) (ss : List Span) → AreJoined ss → falling (seqs_in f ss) ≡ seqs_in f ss
joined_stay f ss h =
    same_sorted (flip_args nat_cmp) flipped exact (falling (seqs_in f ss)) (seqs_in f ss) (falling_falls (seqs_in f ss)) (joined_fall f ss h)
    (λ P k. all_back (flip_args nat_cmp) exact P (seqs_in f ss) k)
    (λ P k. all_inserted (flip_args nat_cmp) flipped exact P (seqs_in f ss) k)

-- ---- and descend

pub joined_below : (s : Span) (ts : List Span) → AllByRecursion (IsBehind s) ts → AllByRecursion (λ t. t.seq ≤ s.seq) ts
joined_below s ts h = all_same (λ t b. b.0) ts h

pub joined_descend : (ss : List Span) → AreJoined ss → SpansDescend ss
joined_descend [] h = tt
joined_descend (s ∷ ss) h = (joined_below s ss h.1, joined_descend ss h.2)
