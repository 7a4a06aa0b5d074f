-- The keys ahead of a walk: the least comes first, and the others are ahead after it.
use Rattle.std.proofs.Common.{◌≡◌, ℕ, Bool, true, false, List, [], ◌∷◌, map, filter, cond, Option, Some, None, ◌⊎◌, inl, inr, ⊎_elim, refl, sym, ap, ◌∙◌, subst}
use Rattle.std.specs.Prelude.{not, ◌&&◌}
use Rattle.std.specs.List.{AllByRecursion}
use Rattle.std.specs.List.Sorted.{IsStrictlySortedBy}
use Rattle.std.specs.declared.cmp.Ordering.{Ordering}
use Rattle.std.specs.declared.cmp.Ordering.TheVariants.{Less, Equal, Greater}
use Rattle.std.specs.Ordering.{is_lt, is_le, ordering_reverse}
use Rattle.std.specs.BTreeMap.Comparable.{le_lt_trans}
use Rattle.std.proofs.lemmas.Bool.{false≢true}
use Rattle.std.proofs.lemmas.Cmp.{nat_list_cmp_total}
use Rattle.std.proofs.lemmas.List.Elements.{All-contains, All-from_recursion}
use Rattle.std.proofs.lemmas.List.Kept.{IsStrictlySortedBy-filter}
use Rattle.std.proofs.lemmas.Map.Lookups.{exact_bytes}
use Rattle.uc_bytes.specs.Bytes.{bytes_cmp}
use Rattle.uc_run_entry.specs.declared.entry.Entry.{Entry}
use Rattle.uc_run_entry.specs.Seek.{is_passed}
use Rattle.uc_run_entry.proofs.Sets.{all_back, sorted_set}
use Rattle.uc_run_entry.proofs.SameSets.{all_inserted, same_sorted}
use Rattle.uc_run.specs.NextKey.{IsLeastKey, IsNextKey}
use Rattle.uc_run.proofs.Order.{key_passed}
use Rattle.uc_compact.specs.Groups.{keys_of}
use Rattle.uc_compact.proofs.Keys.{lt_of}
use Rattle.uc_query_read.specs.Answers.{is_below}
use Rattle.uc_compact.proofs.NestedLists.{all-map, all-mapped, none-passed}
use Rattle.uc_query_read.specs.Ahead.{is_ahead, keys_ahead, keys_behind, Comes}

-- ---- what passes a test

module _ {X : Type 0} (P : X → Type 0) (test : X → Bool) where
  passing_first : (x : X) (xs : List X) (b : Bool) → test x ≡ b → AllByRecursion P (cond b (x ∷ xs) xs) → (test x ≡ true → P x) × AllByRecursion P xs
  passing_first x xs true e h = ((λ _. h.0), h.1)
  passing_first x xs false e h = ((λ passed. absurd (false≢true (sym e ∙ passed))), h)

  -- what holds of all that pass a test holds of each that does
  pub of_passing : (xs : List X) → AllByRecursion P (filter test xs) → AllByRecursion (λ x. test x ≡ true → P x) xs
  of_passing [] h = tt
  of_passing (x ∷ xs) h =
      let first = passing_first x (filter test xs) (test x) refl h in
      (first.0, of_passing xs first.1)

  first_passing : (x : X) (xs : List X) (b : Bool) → test x ≡ b → (test x ≡ true → P x) → AllByRecursion P xs → AllByRecursion P (cond b (x ∷ xs) xs)
  first_passing x xs true e p h = (p e, h)
  first_passing x xs false e p h = h

  -- and the other way round
  pub to_passing : (xs : List X) → AllByRecursion (λ x. test x ≡ true → P x) xs → AllByRecursion P (filter test xs)
  to_passing [] h = tt
  to_passing (x ∷ xs) h = first_passing x (filter test xs) (test x) refl h.0 (to_passing xs h.1)

pub all_with : {X : Type 0} (P Q R : X → Type 0) → ((x : X) → P x → Q x → R x) → (xs : List X) → AllByRecursion P xs → AllByRecursion Q xs → AllByRecursion R xs
all_with P Q R f [] h k = tt
all_with P Q R f (x ∷ xs) h k = (f x h.0 k.0, all_with P Q R f xs h.1 k.1)

-- ---- the keys of points

abbrev keys : List Entry → List (List ℕ)
keys points = map (λ p. p.key) points

pub keys_sorted : (points : List Entry) → IsStrictlySortedBy bytes_cmp (keys_of points)
keys_sorted points = sorted_set bytes_cmp nat_list_cmp_total (keys points)

-- what holds of each point's key holds of all keys
pub all_keys : (P : List ℕ → Type 0) (points : List Entry) → AllByRecursion P (keys points) → AllByRecursion P (keys_of points)
all_keys P points h = all_inserted bytes_cmp nat_list_cmp_total exact_bytes P (keys points) h

pub each_key : (P : List ℕ → Type 0) (points : List Entry) → AllByRecursion P (keys_of points) → AllByRecursion P (keys points)
each_key P points h = all_back bytes_cmp exact_bytes P (keys points) h

-- ---- orders

pub and_left : (a b : Bool) → (a && b) ≡ true → a ≡ true
and_left true b e = refl
and_left false b e = e

pub and_right : (a b : Bool) → (a && b) ≡ true → b ≡ true
and_right true b e = e
and_right false b e = absurd (false≢true e)

pub and_none : (a b : Bool) → b ≡ false → (a && b) ≡ false
and_none true b e = e
and_none false b e = refl

pub not_true : (b : Bool) → not b ≡ true → b ≡ false
not_true true e = absurd (false≢true e)
not_true false e = refl

not_passed : (b : Bool) → (b ≡ true → ⊥) → not b ≡ true
not_passed true h = absurd (h refl)
not_passed false h = refl

-- what isn't at or below is above
pub above : (x y : List ℕ) → is_le (bytes_cmp x y) ≡ false → bytes_cmp y x ≡ Less
above x y e = nat_list_cmp_total.antisymm y x ∙ by (bytes_cmp x y) e
  where
    by : (o : Ordering) → is_le o ≡ false → ordering_reverse o ≡ Less
    by Less f = absurd (false≢true (sym f))
    by Equal f = absurd (false≢true (sym f))
    by Greater f = refl

module _ (points : List Entry) (low : List ℕ) (strict : Bool) (high : Option (List ℕ)) where
  abbrev before : List ℕ → Bool
  before x = is_ahead low strict high x

  none_when_passed : (x : List ℕ) → is_passed low strict x ≡ true → before x ≡ false
  none_when_passed x passed = ap (λ b. not b && is_below x high) passed

  no_key : AllByRecursion (λ p. is_passed low strict p.key ≡ true) points → keys_ahead points low strict high ≡ []
  no_key h =
      none-passed before (keys_of points)
      (all_keys (λ x. before x ≡ false) points
      (all-mapped (λ (p : Entry). p.key) (λ x. before x ≡ false) points
      (all-map (λ (p : Entry). is_passed low strict p.key ≡ true) (λ (p : Entry). before p.key ≡ false) (λ p passed. none_when_passed p.key passed) points h)))

  module _ (key : List ℕ) (least : IsLeastKey points low strict key) where
    abbrev behind : List ℕ → Bool
    behind x = is_ahead key true high x

    -- ---- the least key isn't below the bound

    reaches_on : (bound : Option (List ℕ)) (x : List ℕ) → is_le (bytes_cmp key x) ≡ true → is_below key bound ≡ false → is_below x bound ≡ false
    reaches_on None x le e = e
    reaches_on (Some bound) x le e = by (is_lt (bytes_cmp x bound)) refl
      where
        by : (b : Bool) → is_lt (bytes_cmp x bound) ≡ b → b ≡ false
        by true below = absurd (false≢true (sym e ∙ ap is_lt (le_lt_trans nat_list_cmp_total key x bound le (lt_of x bound below))))
        by false below = refl

    none_by : (x : List ℕ) (b : Bool) → is_passed low strict x ≡ b → is_below key high ≡ false → (is_passed low strict x ≡ false → is_le (bytes_cmp key x) ≡ true) → before x ≡ false
    none_by x true e out from = none_when_passed x e
    none_by x false e out from = and_none (not (is_passed low strict x)) (is_below x high) (reaches_on high x (from e) out)

    none_below : is_below key high ≡ false → keys_ahead points low strict high ≡ []
    none_below out =
        none-passed before (keys_of points)
        (all_keys (λ x. before x ≡ false) points
        (all-mapped (λ (p : Entry). p.key) (λ x. before x ≡ false) points
        (all-map (λ (p : Entry). is_passed low strict p.key ≡ false → is_le (bytes_cmp key p.key) ≡ true) (λ (p : Entry). before p.key ≡ false) (λ p from. none_by p.key (is_passed low strict p.key) refl out from) points least.least)))

    -- ---- it is below the bound

    key_before_it : (x : List ℕ) → behind x ≡ true → bytes_cmp key x ≡ Less
    key_before_it x e = above x key (not_true (is_le (bytes_cmp x key)) (and_left (not (is_le (bytes_cmp x key))) (is_below x high) e))

    still_ahead : (x : List ℕ) → behind x ≡ true → before x ≡ true
    still_ahead x e =
        let less = key_before_it x e in
        let fresh : not (is_passed low strict x) ≡ true = not_passed (is_passed low strict x) (λ passed. false≢true (sym least.not_passed ∙ key_passed low key x strict less passed)) in
        ap (λ b. b && is_below x high) fresh ∙ and_right (not (is_le (bytes_cmp x key))) (is_below x high) e

    it_or_behind : (x : List ℕ) (o : Ordering) → bytes_cmp key x ≡ o → is_le o ≡ true → before x ≡ true → (key ≡ x) ⊎ (behind x ≡ true)
    it_or_behind x Less less le e =
        inr (ap (λ c. not (is_le c) && is_below x high) (nat_list_cmp_total.antisymm x key ∙ ap ordering_reverse less) ∙ and_right (not (is_passed low strict x)) (is_below x high) e)
    it_or_behind x Equal tied le e = inl (exact_bytes key x tied)
    it_or_behind x Greater more le e = absurd (false≢true le)

    it_is_ahead : is_below key high ≡ true → before key ≡ true
    it_is_ahead below = ap (λ b. not b && is_below key high) least.not_passed ∙ below

    onward : is_below key high ≡ true → (P : List ℕ → Type 0) → AllByRecursion P (filter before (keys_of points)) → AllByRecursion P (key ∷ filter behind (keys_of points))
    onward below P h =
        let each = of_passing P before (keys_of points) h in
        let here = All-contains (λ x. before x ≡ true → P x) (keys points) key (All-from_recursion (λ x. before x ≡ true → P x) (keys points) (each_key (λ x. before x ≡ true → P x) points each)) least.of_a_point in
        (here (it_is_ahead below), to_passing P behind (keys_of points) (all-map (λ x. before x ≡ true → P x) (λ x. behind x ≡ true → P x) (λ x p e. p (still_ahead x e)) (keys_of points) each))

    backward : (P : List ℕ → Type 0) → AllByRecursion P (key ∷ filter behind (keys_of points)) → AllByRecursion P (filter before (keys_of points))
    backward P h =
        let each = each_key (λ x. behind x ≡ true → P x) points (of_passing P behind (keys_of points) h.1) in
        let from = all-mapped (λ (p : Entry). p.key) (λ x. is_passed low strict x ≡ false → is_le (bytes_cmp key x) ≡ true) points least.least in
        let taken = λ (x : List ℕ) (p : behind x ≡ true → P x) (le : is_passed low strict x ≡ false → is_le (bytes_cmp key x) ≡ true) (e : before x ≡ true).
        ⊎_elim (λ same. subst P same h.0) p
        (it_or_behind x (bytes_cmp key x) refl (le (not_true (is_passed low strict x) (and_left (not (is_passed low strict x)) (is_below x high) e))) e) in
        to_passing P before (keys_of points)
        (all_keys (λ x. before x ≡ true → P x) points
        (all_with (λ x. behind x ≡ true → P x) (λ x. is_passed low strict x ≡ false → is_le (bytes_cmp key x) ≡ true) (λ x. before x ≡ true → P x) taken (keys points) each from))

    all_behind : AllByRecursion (λ x. bytes_cmp key x ≡ Less) (filter behind (keys_of points))
    all_behind = to_passing (λ x. bytes_cmp key x ≡ Less) behind (keys_of points) (each_by (keys_of points))
      where
        each_by : (ks : List (List ℕ)) → AllByRecursion (λ x. behind x ≡ true → bytes_cmp key x ≡ Less) ks
        each_by [] = tt
        each_by (k ∷ ks) = (key_before_it k, each_by ks)

    it_comes : is_below key high ≡ true → keys_ahead points low strict high ≡ key ∷ keys_ahead points key true high
    unfolding IsStrictlySortedBy
    it_comes below =
        same_sorted bytes_cmp nat_list_cmp_total exact_bytes (filter before (keys_of points)) (key ∷ filter behind (keys_of points))
        (IsStrictlySortedBy-filter bytes_cmp before (keys_of points) (keys_sorted points))
        (all_behind, IsStrictlySortedBy-filter bytes_cmp behind (keys_of points) (keys_sorted points))
        (onward below) backward

  -- nothing is left to come
  pub comes_none : IsNextKey points low strict None → Comes (keys_ahead points low strict high) None (keys_behind points None high)
  comes_none h = (no_key h, refl)

  pub comes_too_far : (key : List ℕ) → IsNextKey points low strict (Some key) → is_below key high ≡ false → Comes (keys_ahead points low strict high) None (keys_behind points None high)
  comes_too_far key h out = (none_below key h out, refl)

  pub comes_next : (key : List ℕ) → IsNextKey points low strict (Some key) → is_below key high ≡ true → Comes (keys_ahead points low strict high) (Some key) (keys_behind points (Some key) high)
  comes_next key h below = it_comes key h below
