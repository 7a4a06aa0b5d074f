-- The lists of fragments.
use Rattle.std.proofs.Common.{◌≡◌, ℕ, zero, suc, ◌<◌, ◌≤◌, Bool, true, false, cond, leb, arith, List, [], ◌∷◌, length, get_or, map, filter, Option, Some, None, refl, sym, ap, ◌∙◌}
use Rattle.std.specs.List.{AllByRecursion, range_with_len}
use Rattle.std.proofs.lemmas.List.FromFn.{length-map-range_with_len, get_or-map-range_with_len}
use Rattle.std.proofs.lemmas.Bool.Decides.{nat_tests}
use Rattle.std.proofs.lemmas.Option.{none-some, same_Some}
use Rattle.uc_run_entry.specs.declared.span.Span.{Span}
use Rattle.uc_run_entry.specs.Spans.{stands_in, seqs_in, falling, IsFalling, listed, first_seq}
use Rattle.std.specs.Prelude.{◌-◌, drop}
use Rattle.std.proofs.Common.{ltb, eqb}
use Rattle.std.specs.List.{slice_get}
use Rattle.std.specs.List.Sorted.{IsStrictlySortedBy}
use Rattle.std.specs.Ordering.{nat_cmp, flip_args}
use Rattle.std.specs.declared.cmp.Ordering.TheVariants.{Less, Equal, Greater}
use Rattle.uc_run_entry.specs.Ahead.{ahead, after}
use Rattle.uc_run_entry.specs.Joined.{AreJoined}
use Rattle.uc_run_entry.proofs.Greatest.{all-filter, descend_seqs}
use Rattle.uc_run_entry.proofs.Joins.{falling_falls, joined_stay, joined_below}
use Rattle.uc_run_entry.proofs.SameSets.{all_same}

pub length-listed : (count : ℕ) (spans : List Span) → length (listed count spans) ≡ count
length-listed count spans = length-map-range_with_len (λ f. falling (seqs_in f spans)) 0 count

pub listed_at : (count : ℕ) (spans : List Span) (f : ℕ) → f < count → get_or (listed count spans) f [] ≡ falling (seqs_in f spans)
listed_at count spans f l = get_or-map-range_with_len (λ f. falling (seqs_in f spans)) 0 count f f [] l (omega arith)

all_mapped : {Y : Type 0} (P : Y → Type 0) (g : ℕ → Y) → ((f : ℕ) → P (g f)) → (fs : List ℕ) → AllByRecursion P (map g fs)
all_mapped P g h [] = tt
all_mapped P g h (f ∷ fs) = (h f, all_mapped P g h fs)

pub listed_fall : (count : ℕ) (spans : List Span) → AllByRecursion IsFalling (listed count spans)
listed_fall count spans = all_mapped IsFalling (λ f. falling (seqs_in f spans)) (λ f. falling_falls (seqs_in f spans)) (range_with_len 0 count)

pub same_map : {Y : Type 0} (g h : ℕ → Y) → ((f : ℕ) → g f ≡ h f) → (fs : List ℕ) → map g fs ≡ map h fs
same_map g h same [] = refl
same_map {Y} g h same (f ∷ fs) = ap (λ (y : Y). y ∷ map g fs) (same f) ∙ ap (λ (ys : List Y). h f ∷ ys) (same_map g h same fs)

pub same_listed : (count : ℕ) (a b : List Span) → ((f : ℕ) → falling (seqs_in f a) ≡ falling (seqs_in f b)) → listed count a ≡ listed count b
same_listed count a b same = same_map (λ f. falling (seqs_in f a)) (λ f. falling (seqs_in f b)) same (range_with_len 0 count)

-- ---- the greatest of all

pub keeps_all : (n : ℕ) (seqs : List ℕ) → AllByRecursion (λ m. m ≤ n) seqs → filter (λ m. leb m n) seqs ≡ seqs
keeps_all n [] h = refl
keeps_all n (m ∷ seqs) h =
    let le : m ≤ n = h.0 in
    let e : leb m n ≡ true = grind (arith, nat_tests) in
    ap (λ b. cond b (m ∷ filter (λ k. leb k n) seqs) (filter (λ k. leb k n) seqs)) e ∙ ap (λ (ns : List ℕ). m ∷ ns) (keeps_all n seqs h.1)

pub none_above : (s : Span) (ss : List Span) (f : ℕ) → AreJoined (s ∷ ss) → AllByRecursion (λ m. m ≤ s.seq) (seqs_in f (s ∷ ss))
none_above s ss f h =
    descend_seqs s.seq (filter (stands_in f) (s ∷ ss)) (all-filter (λ t. t.seq ≤ s.seq) (stands_in f) (s ∷ ss) (omega arith, joined_below s ss h.1))

all_ahead : (spans : List Span) (f : ℕ) → AreJoined spans → ahead (first_seq spans) (falling (seqs_in f spans)) ≡ falling (seqs_in f spans)
all_ahead [] f h = refl
all_ahead (s ∷ ss) f h =
    ap (λ (seqs : List ℕ). ahead (Some s.seq) seqs) (joined_stay f (s ∷ ss) h)
    ∙ keeps_all s.seq (seqs_in f (s ∷ ss)) (none_above s ss f h)
    ∙ sym (joined_stay f (s ∷ ss) h)

pub greatest_of_all : (count : ℕ) (spans : List Span) → AreJoined spans → AllByRecursion (λ seqs. ahead (first_seq spans) seqs ≡ seqs) (listed count spans)
greatest_of_all count spans h = all_mapped (λ seqs. ahead (first_seq spans) seqs ≡ seqs) (λ f. falling (seqs_in f spans)) (λ f. all_ahead spans f h) (range_with_len 0 count)

-- ---- one step on

less_back : (x y : ℕ) (b c : Bool) → ltb y x ≡ b → cond b Less (cond c Equal Greater) ≡ Less → y < x
less_back x y true c e f = grind (arith, nat_tests)
less_back x y false true e f = cc
less_back x y false false e f = cc

all_below : (x : ℕ) (seqs : List ℕ) → AllByRecursion (λ y. flip_args nat_cmp x y ≡ Less) seqs → AllByRecursion (λ y. y < x) seqs
all_below x seqs h = all_same (λ y e. less_back x y (ltb y x) (eqb y x) refl e) seqs h

-- below a number, where there is one
abbrev IsBelow : ℕ → Option ℕ → Type 0
IsBelow x None = Unit {0}
IsBelow x (Some y) = y < x

below_first : (n x m : ℕ) (rest : List ℕ) (b : Bool) → leb m n ≡ b → n < x → IsBelow x (slice_get rest 0) → IsBelow x (slice_get (cond b (m ∷ rest) rest) 0)
below_first n x m rest true e l h =
    let le : m ≤ n = grind (arith, nat_tests) in
    omega (arith, le, l)
below_first n x m rest false e l h = h

first_below : (n x : ℕ) (seqs : List ℕ) → n < x → IsBelow x (slice_get (filter (λ m. leb m n) seqs) 0)
first_below n x [] l = tt
first_below n x (m ∷ seqs) l = below_first n x m (filter (λ k. leb k n) seqs) (leb m n) refl l (first_below n x seqs l)

skip_by : (x k : ℕ) (seqs : List ℕ) (b : Bool) → k < x → ahead (cond b None (Some (k - 1))) (x ∷ seqs) ≡ ahead (cond b None (Some (k - 1))) seqs
skip_by x k seqs true l = refl
skip_by x k seqs false l =
    let lt : k - 1 < x = omega (arith, l) in
    let e : leb x (k - 1) ≡ false = grind (arith, nat_tests) in
    ap (λ b. cond b (x ∷ filter (λ m. leb m (k - 1)) seqs) (filter (λ m. leb m (k - 1)) seqs)) e

skipped : (x : ℕ) (found : Option ℕ) (seqs : List ℕ) → IsBelow x found → ahead (after found) (x ∷ seqs) ≡ ahead (after found) seqs
skipped x None seqs l = refl
skipped x (Some k) seqs l = skip_by x k seqs (eqb k 0) l

none_below : (x : ℕ) (seqs : List ℕ) → x ≡ 0 → AllByRecursion (λ y. y < x) seqs → seqs ≡ []
none_below x [] e h = refl
none_below x (y ∷ seqs) e h = absurd (omega (arith, e, h.0))

taken_by : (x : ℕ) (seqs : List ℕ) (b : Bool) → eqb x 0 ≡ b → AllByRecursion (λ y. y < x) seqs → ahead (cond b None (Some (x - 1))) (x ∷ seqs) ≡ seqs
taken_by x seqs true e h =
    let zero_is : x ≡ 0 = grind (arith, nat_tests) in
    sym (none_below x seqs zero_is h)
taken_by x seqs false e h =
    let some : 0 < x = grind (arith, nat_tests) in
    let lt : x - 1 < x = omega (arith, some) in
    let f : leb x (x - 1) ≡ false = grind (arith, nat_tests) in
    ap (λ b. cond b (x ∷ filter (λ m. leb m (x - 1)) seqs) (filter (λ m. leb m (x - 1)) seqs)) f
    ∙ keeps_all (x - 1) seqs (all_same (λ y l. omega (arith, l)) seqs h)

rest_by : (n x : ℕ) (seqs : List ℕ) (b : Bool) → leb x n ≡ b → AllByRecursion (λ y. y < x) seqs →
    ahead (after (slice_get (filter (λ m. leb m n) seqs) 0)) seqs ≡ drop 1 (filter (λ m. leb m n) seqs) →
    ahead (after (slice_get (cond b (x ∷ filter (λ m. leb m n) seqs) (filter (λ m. leb m n) seqs)) 0)) (x ∷ seqs) ≡ drop 1 (cond b (x ∷ filter (λ m. leb m n) seqs) (filter (λ m. leb m n) seqs))
rest_by n x seqs true e h rest =
    let le : x ≤ n = grind (arith, nat_tests) in
    taken_by x seqs (eqb x 0) refl h
    ∙ sym (keeps_all n seqs (all_same (λ y l. omega (arith, l, le)) seqs h))
rest_by n x seqs false e h rest =
    let lt : n < x = grind (arith, nat_tests) in
    skipped x (slice_get (filter (λ m. leb m n) seqs) 0) seqs (first_below n x seqs lt) ∙ rest

rest_within : (n : ℕ) (seqs : List ℕ) → IsFalling seqs → ahead (after (slice_get (filter (λ m. leb m n) seqs) 0)) seqs ≡ drop 1 (filter (λ m. leb m n) seqs)
unfolding IsStrictlySortedBy
rest_within n [] h = refl
rest_within n (x ∷ seqs) h = rest_by n x seqs (leb x n) refl (all_below x seqs h.0) (rest_within n seqs h.1)

pub rest_ahead : (at : Option ℕ) (seqs : List ℕ) → IsFalling seqs → ahead (after (slice_get (ahead at seqs) 0)) seqs ≡ drop 1 (ahead at seqs)
rest_ahead None seqs h = refl
rest_ahead (Some n) seqs h = rest_within n seqs h

-- ---- the first of a list

pub first_and_rest : {X : Type 0} (xs : List X) (x : X) → slice_get xs 0 ≡ Some x → xs ≡ x ∷ drop 1 xs
first_and_rest [] x e = absurd (none-some x e)
first_and_rest (y ∷ xs) x e = ap (λ z. z ∷ xs) (same_Some y x e)

pub no_first : {X : Type 0} (xs : List X) → slice_get xs 0 ≡ None → xs ≡ []
no_first [] e = refl
no_first (y ∷ xs) e = absurd (none-some y (sym e))

pub all_at : {X : Type 0} (P : X → Type 0) (xs : List X) (n : ℕ) (d : X) → AllByRecursion P xs → n < length xs → P (get_or xs n d)
all_at P [] n d h l = absurd (omega (arith, l))
all_at P (x ∷ xs) zero d h l = h.0
all_at P (x ∷ xs) (suc n) d h l = all_at P xs n d h.1 (omega (arith, l))
