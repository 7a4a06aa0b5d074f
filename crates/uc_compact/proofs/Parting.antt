-- The kept part of points is that of the points below a key, followed by that of the points from it on.
use Rattle.std.proofs.Common.{◌≡◌, ℕ, ◌-◌, ◌≤◌, Bool, true, false, cond, List, [], ◌∷◌, ◌++◌, length, map, take_all, drop, filter, refl, sym, ap, ◌∙◌, subst, arith}
use Rattle.std.specs.Prelude.{not}
use Rattle.std.specs.List.{AllByRecursion, flat_map}
use Rattle.std.specs.List.Sorted.{IsStrictlySortedBy, IsPartitionPoint}
use Rattle.std.specs.declared.cmp.Ordering.TheVariants.{Less}
use Rattle.std.specs.Ordering.{is_lt}
use Rattle.std.specs.Cmp.Lexicographic.{bytes_decides}
use Rattle.std.proofs.lemmas.Bool.{false≢true}
use Rattle.std.proofs.lemmas.Cmp.{nat_list_cmp_total}
use Rattle.std.proofs.lemmas.Grind.{flat_map-append}
use Rattle.std.proofs.lemmas.List.Elements.{filter-append}
use Rattle.std.proofs.lemmas.List.Kept.{IsStrictlySortedBy-filter}
use Rattle.std.proofs.lemmas.Map.Lookups.{exact_bytes}
use Rattle.uc_oper.specs.Operation.{Operation}
use Rattle.uc_bytes.specs.Bytes.{bytes_cmp, same_bytes}
use Rattle.uc_run_entry.specs.declared.entry.Entry.{Entry}
use Rattle.uc_run_entry.specs.Fragment.{Fragment}
use Rattle.std.proofs.lemmas.List.{length-drop}
use Rattle.uc_run_entry.proofs.Partitions.{IsCut, filter-cut}
use Rattle.uc_run_entry.proofs.Sets.{all_back, sorted_set}
use Rattle.uc_run_entry.proofs.SameSets.{same_sorted, all_inserted}
use Rattle.uc_compact.specs.Stripes.{Keeping}
use Rattle.uc_compact.specs.Choice.{AreOfOneKey, points_for, points_named, seqs_over}
use Rattle.uc_compact.proofs.NestedLists.{all-filter}
use Rattle.uc_compact.proofs.OutputRun.{sorted-append}
use Rattle.uc_compact.specs.Groups.{keys_of}
use Rattle.uc_compact.specs.Kept.{AreOfOneKeyEach, points_kept}
use Rattle.uc_compact.specs.Cuts.{is_below, is_from}
use Rattle.uc_compact.proofs.Keys.{lt_of, le_of_not, lt_le}
use Rattle.uc_compact.proofs.Lists.{all-append, all-front, all-back, all-mapped, all-unmapped}
use Rattle.uc_compact.proofs.Taking.{Sorted}

-- ---- of the points whose keys pass a test

module _ (passes : List ℕ → Bool) where
  abbrev passing : List Entry → List Entry
  passing ps = filter (λ (p : Entry). passes p.key) ps

  named_with : (key : List ℕ) (p : Entry) → same_bytes p.key key ≡ true → passes p.key ≡ passes key
  named_with key p e = ap passes ((bytes_decides p.key key).0 e)

  -- a key that passes has all its points there
  named_there : (key : List ℕ) → passes key ≡ true → (ps : List Entry) → points_named key (passing ps) ≡ points_named key ps
  named_there key t [] = refl
  named_there key t (p ∷ ps) = put (same_bytes p.key key) (passes p.key) refl refl (named_there key t ps)
    where
      put : (a b : Bool) → same_bytes p.key key ≡ a → passes p.key ≡ b → points_named key (passing ps) ≡ points_named key ps → points_named key (cond b (p ∷ passing ps) (passing ps)) ≡ cond a (p ∷ points_named key ps) (points_named key ps)
      put true true e f rest = ap (λ c. cond c (p ∷ points_named key (passing ps)) (points_named key (passing ps))) e ∙ ap (λ (qs : List Entry). p ∷ qs) rest
      put true false e f rest = absurd (false≢true (sym f ∙ named_with key p e ∙ t))
      put false true e f rest = ap (λ c. cond c (p ∷ points_named key (passing ps)) (points_named key (passing ps))) e ∙ rest
      put false false e f rest = rest

  -- another has none
  none_there : (key : List ℕ) → passes key ≡ false → (ps : List Entry) → points_named key (passing ps) ≡ []
  none_there key t [] = refl
  none_there key t (p ∷ ps) = put (same_bytes p.key key) (passes p.key) refl refl (none_there key t ps)
    where
      put : (a b : Bool) → same_bytes p.key key ≡ a → passes p.key ≡ b → points_named key (passing ps) ≡ [] → points_named key (cond b (p ∷ passing ps) (passing ps)) ≡ []
      put true true e f rest = absurd (false≢true (sym t ∙ sym (named_with key p e) ∙ f))
      put false true e f rest = ap (λ c. cond c (p ∷ points_named key (passing ps)) (points_named key (passing ps))) e ∙ rest
      put true false e f rest = rest
      put false false e f rest = rest

  no_points : (seqs : List ℕ) (ps : List Entry) → AreOfOneKey ps seqs → AreOfOneKey [] seqs
  unfolding IsStrictlySortedBy
  no_points seqs ps h = record { points_fall = tt; seqs_fall = h.seqs_fall; points_from_one = tt; seqs_from_one = h.seqs_from_one; apart = tt }

  pub one_key_there : (pieces : List Fragment) (ps : List Entry) → AreOfOneKeyEach pieces ps → AreOfOneKeyEach pieces (passing ps)
  one_key_there pieces ps h key = by (passes key) refl
    where
      by : (b : Bool) → passes key ≡ b → AreOfOneKey (points_named key (passing ps)) (seqs_over key pieces)
      by true e = subst (λ (qs : List Entry). AreOfOneKey qs (seqs_over key pieces)) (sym (named_there key e ps)) (h key)
      by false e = subst (λ (qs : List Entry). AreOfOneKey qs (seqs_over key pieces)) (sym (none_there key e ps)) (no_points (seqs_over key pieces) (points_named key ps) (h key))

  module _ (m : Operation) (keeping : Keeping) (pieces : List Fragment) (ps : List Entry) where
    abbrev of_key : List Entry → List ℕ → List Entry
    of_key qs key = points_for m keeping key (points_named key qs) (seqs_over key pieces)

    kept_there : (keys : List (List ℕ)) → AllByRecursion (λ key. passes key ≡ true) keys → flat_map (of_key ps) keys ≡ flat_map (of_key (passing ps)) keys
    kept_there [] h = refl
    kept_there (key ∷ keys) h =
        ap (λ (qs : List Entry). points_for m keeping key qs (seqs_over key pieces) ++ flat_map (of_key ps) keys) (sym (named_there key h.0 ps))
        ∙ ap (λ (qs : List Entry). of_key (passing ps) key ++ qs) (kept_there keys h.1)

  all_pass : (ps : List Entry) → AllByRecursion (λ (p : Entry). passes p.key ≡ true) (passing ps)
  all_pass [] = tt
  all_pass (p ∷ ps) = put (passes p.key) refl (all_pass ps)
    where
      put : (b : Bool) → passes p.key ≡ b → AllByRecursion (λ (q : Entry). passes q.key ≡ true) (passing ps) → AllByRecursion (λ (q : Entry). passes q.key ≡ true) (cond b (p ∷ passing ps) (passing ps))
      put true e rest = (e, rest)
      put false e rest = rest

  keys_pass : (ps : List Entry) → AllByRecursion (λ key. passes key ≡ true) (keys_of (passing ps))
  keys_pass ps = all_inserted bytes_cmp nat_list_cmp_total exact_bytes (λ key. passes key ≡ true) (map (λ (p : Entry). p.key) (passing ps)) (all-mapped (λ (p : Entry). p.key) (λ key. passes key ≡ true) (passing ps) (all_pass ps))

-- what holds of those that pass and of the others holds of all
both_by : {X : Type 0} (P : X → Type 0) (x : X) (passing others all : List X) (b : Bool) → AllByRecursion P (cond b (x ∷ passing) passing) → AllByRecursion P (cond (not b) (x ∷ others) others) → (AllByRecursion P passing → AllByRecursion P others → AllByRecursion P all) → AllByRecursion P (x ∷ all)
both_by P x passing others all true h k rest = (h.0, rest h.1 k)
both_by P x passing others all false h k rest = (k.0, rest h k.1)

all_of_both : {X : Type 0} (P : X → Type 0) (test : X → Bool) (xs : List X) → AllByRecursion P (filter test xs) → AllByRecursion P (filter (λ x. not (test x)) xs) → AllByRecursion P xs
all_of_both P test [] h k = tt
all_of_both P test (x ∷ xs) h k = both_by P x (filter test xs) (filter (λ y. not (test y)) xs) xs (test x) h k (λ i j. all_of_both P test xs i j)

-- ---- on both sides of a key

module _ (cut : List ℕ) (ps : List Entry) where
  abbrev below : List Entry
  below = filter (is_below cut) ps

  abbrev from : List Entry
  from = filter (is_from cut) ps

  abbrev keys : List Entry → List (List ℕ)
  keys qs = map (λ (p : Entry). p.key) qs

  abbrev before_cut : List ℕ → Bool
  before_cut key = is_lt (bytes_cmp key cut)

  abbrev not_before_cut : List ℕ → Bool
  not_before_cut key = not (is_lt (bytes_cmp key cut))

  not_true : (b : Bool) → not b ≡ true → b ≡ false
  not_true true e = absurd (false≢true e)
  not_true false e = refl

  less_than : (x : List ℕ) (ys : List (List ℕ)) → before_cut x ≡ true → AllByRecursion (λ y. not_before_cut y ≡ true) ys → AllByRecursion (λ y. bytes_cmp x y ≡ Less) ys
  less_than x [] e h = tt
  less_than x (y ∷ ys) e h = (lt_le x cut y (lt_of x cut e) (le_of_not y cut (not_true (is_lt (bytes_cmp y cut)) h.0)), less_than x ys e h.1)

  all_less : (xs ys : List (List ℕ)) → AllByRecursion (λ x. before_cut x ≡ true) xs → AllByRecursion (λ y. not_before_cut y ≡ true) ys → AllByRecursion (λ x. AllByRecursion (λ y. bytes_cmp x y ≡ Less) ys) xs
  all_less [] ys h k = tt
  all_less (x ∷ xs) ys h k = (less_than x ys h.0 k, all_less xs ys h.1 k)

  keys_sorted : IsStrictlySortedBy bytes_cmp (keys_of below ++ keys_of from)
  keys_sorted =
      sorted-append bytes_cmp (keys_of below) (keys_of from) (sorted_set bytes_cmp nat_list_cmp_total (keys below)) (sorted_set bytes_cmp nat_list_cmp_total (keys from))
      (all_less (keys_of below) (keys_of from) (keys_pass before_cut ps) (keys_pass not_before_cut ps))

  -- of keys that were inserted
  into : (P : List ℕ → Type 0) (qs : List Entry) → AllByRecursion (λ (p : Entry). P p.key) qs → AllByRecursion P (keys_of qs)
  into P qs h = all_inserted bytes_cmp nat_list_cmp_total exact_bytes P (keys qs) (all-mapped (λ (p : Entry). p.key) P qs h)

  out_of : (P : List ℕ → Type 0) (qs : List Entry) → AllByRecursion P (keys_of qs) → AllByRecursion (λ (p : Entry). P p.key) qs
  out_of P qs h = all-unmapped (λ (p : Entry). p.key) P qs (all_back bytes_cmp exact_bytes P (keys qs) h)

  pub keys_parted : keys_of ps ≡ keys_of below ++ keys_of from
  keys_parted =
      same_sorted bytes_cmp nat_list_cmp_total exact_bytes (keys_of ps) (keys_of below ++ keys_of from) (sorted_set bytes_cmp nat_list_cmp_total (keys ps)) keys_sorted
      (λ P h. let all : AllByRecursion (λ (p : Entry). P p.key) ps = out_of P ps h in
      all-append P (keys_of below) (keys_of from) (into P below (all-filter (λ (p : Entry). P p.key) (is_below cut) ps all)) (into P from (all-filter (λ (p : Entry). P p.key) (is_from cut) ps all)))
      (λ P h. into P ps (all_of_both (λ (p : Entry). P p.key) (is_below cut) ps (out_of P below (all-front P (keys_of below) (keys_of from) h)) (out_of P from (all-back P (keys_of below) (keys_of from) h))))

  pub kept_parted : (m : Operation) (keeping : Keeping) (pieces : List Fragment) → points_kept m keeping pieces ps ≡ points_kept m keeping pieces below ++ points_kept m keeping pieces from
  kept_parted m keeping pieces =
      ap (flat_map (of_key before_cut m keeping pieces ps ps)) keys_parted
      ∙ flat_map-append (of_key before_cut m keeping pieces ps ps) (keys_of below) (keys_of from)
      ∙ ap (λ (qs : List Entry). qs ++ flat_map (of_key before_cut m keeping pieces ps ps) (keys_of from)) (kept_there before_cut m keeping pieces ps (keys_of below) (keys_pass before_cut ps))
      ∙ ap (λ (qs : List Entry). points_kept m keeping pieces below ++ qs) (kept_there not_before_cut m keeping pieces ps (keys_of from) (keys_pass not_before_cut ps))

  pub one_key_below : (pieces : List Fragment) → AreOfOneKeyEach pieces ps → AreOfOneKeyEach pieces below
  one_key_below pieces h = one_key_there before_cut pieces ps h

  pub one_key_from : (pieces : List Fragment) → AreOfOneKeyEach pieces ps → AreOfOneKeyEach pieces from
  one_key_from pieces h = one_key_there not_before_cut pieces ps h

-- ---- lists that are parted one by one

module _ {X : Type 0} (f : X → List Entry) (test : Entry → Bool) where
  joined_there : (xs : List X) → flat_map (λ (ps : List Entry). ps) (map (λ x. filter test (f x)) xs) ≡ filter test (flat_map f xs)
  joined_there [] = refl
  joined_there (x ∷ xs) = ap (λ (ps : List Entry). filter test (f x) ++ ps) (joined_there xs) ∙ sym (filter-append test (f x) (flat_map f xs))

  joined_map : (ys : List X) → flat_map f ys ≡ flat_map (λ (ps : List Entry). ps) (map f ys)
  joined_map [] = refl
  joined_map (y ∷ ys) = ap (λ (ps : List Entry). f y ++ ps) (joined_map ys)

  pub joined_parts : (xs ys : List X) → map f ys ≡ map (λ x. filter test (f x)) xs → flat_map f ys ≡ filter test (flat_map f xs)
  joined_parts xs ys e = joined_map ys ∙ ap (flat_map (λ (ps : List Entry). ps)) e ∙ joined_there xs

  sorted_there : (xs : List X) → AllByRecursion (λ x. Sorted (f x)) xs → AllByRecursion Sorted (map (λ x. filter test (f x)) xs)
  sorted_there [] h = tt
  sorted_there (x ∷ xs) h = (IsStrictlySortedBy-filter _ test (f x) h.0, sorted_there xs h.1)

  pub sorted_parts : (xs ys : List X) → map f ys ≡ map (λ x. filter test (f x)) xs → AllByRecursion (λ x. Sorted (f x)) xs → AllByRecursion (λ y. Sorted (f y)) ys
  sorted_parts xs ys e h = all-unmapped f Sorted ys (subst (AllByRecursion Sorted) (sym e) (sorted_there xs h))

-- ---- points in order: those below a key stand first

is_cut : (test : Entry → Bool) (ps : List Entry) (i : ℕ) → i ≤ length ps → IsPartitionPoint (λ p. test p ≡ true) (λ p. test p ≡ false) ps i → IsCut (λ p. not (test p)) ps i (length ps - i)
is_cut test ps i le point = record {
  within = omega (arith, le);
  before = λ k d l. ap not (point.0 k d (omega arith) l);
  here = λ k d l m. ap not (point.1 k d l (omega (arith, m, le)));
  behind = λ k d l m. absurd (omega (arith, l, m, le));
}

-- those that pass come first, so the others come after them
pub filter-back : (test : Entry → Bool) (ps : List Entry) (i : ℕ) → i ≤ length ps → IsPartitionPoint (λ p. test p ≡ true) (λ p. test p ≡ false) ps i → drop i ps ≡ filter (λ p. not (test p)) ps
filter-back test ps i le point =
    let long : length (drop i ps) ≡ length ps - i = length-drop i ps in
    sym (filter-cut (λ p. not (test p)) ps i (length ps - i) (is_cut test ps i le point) ∙ take_all (length ps - i) (drop i ps) (omega (arith, long)))

-- ---- runs' points on both sides of a key, as they are borrowed

module _ {X : Type 0} (f : X → List Entry) (cut : List ℕ) (runs : List X) where
  module _ (part lent : List X) (same : lent ≡ part) where
    pub sorted_of : (test : Entry → Bool) → map f part ≡ map (λ x. filter test (f x)) runs → AllByRecursion (λ x. Sorted (f x)) runs → AllByRecursion (λ x. Sorted (f x)) lent
    sorted_of test is sorted = subst (AllByRecursion (λ (x : X). Sorted (f x))) (sym same) (sorted_parts f test runs part is sorted)

    points_of_part : (test : Entry → Bool) → map f part ≡ map (λ x. filter test (f x)) runs → flat_map f lent ≡ filter test (flat_map f runs)
    points_of_part test is = ap (flat_map f) same ∙ joined_parts f test runs part is

    pub one_key_of_below : map f part ≡ map (λ x. filter (is_below cut) (f x)) runs → (pieces : List Fragment) → AreOfOneKeyEach pieces (flat_map f runs) → AreOfOneKeyEach pieces (flat_map f lent)
    one_key_of_below is pieces each = subst (AreOfOneKeyEach pieces) (sym (points_of_part (is_below cut) is)) (one_key_below cut (flat_map f runs) pieces each)

    pub one_key_of_from : map f part ≡ map (λ x. filter (is_from cut) (f x)) runs → (pieces : List Fragment) → AreOfOneKeyEach pieces (flat_map f runs) → AreOfOneKeyEach pieces (flat_map f lent)
    one_key_of_from is pieces each = subst (AreOfOneKeyEach pieces) (sym (points_of_part (is_from cut) is)) (one_key_from cut (flat_map f runs) pieces each)

  -- what is kept of both is what is kept of all
  pub both_kept : (m : Operation) (keeping : Keeping) (pieces : List Fragment) (below lent_below from lent_from : List X) (kept top all : List Entry) → lent_below ≡ below → lent_from ≡ from → map f below ≡ map (λ x. filter (is_below cut) (f x)) runs → map f from ≡ map (λ x. filter (is_from cut) (f x)) runs → kept ≡ points_kept m keeping pieces (flat_map f lent_below) → top ≡ points_kept m keeping pieces (flat_map f lent_from) → all ≡ kept ++ top → all ≡ points_kept m keeping pieces (flat_map f runs)
  both_kept m keeping pieces below lent_below from lent_from kept top all same_below same_from below_is from_is kept_is top_is all_is =
      all_is
      ∙ ap (λ (ps : List Entry). ps ++ top) (kept_is ∙ ap (points_kept m keeping pieces) (points_of_part below lent_below same_below (is_below cut) below_is))
      ∙ ap (λ (ps : List Entry). points_kept m keeping pieces (filter (is_below cut) (flat_map f runs)) ++ ps) (top_is ∙ ap (points_kept m keeping pieces) (points_of_part from lent_from same_from (is_from cut) from_is))
      ∙ sym (kept_parted cut (flat_map f runs) m keeping pieces)
