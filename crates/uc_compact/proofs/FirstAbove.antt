-- The first fragment that ends above a key.
use Rattle.std.proofs.Common.{◌≡◌, ℕ, ◌-◌, ◌<◌, ◌≤◌, Bool, true, false, cond, List, [], ◌∷◌, Option, Some, None, length, get_or, refl, sym, ap, ◌∙◌, arith}
use Rattle.std.specs.Prelude.{◌&&◌, MatchOption}
use Rattle.std.specs.List.{HoldsAt}
use Rattle.std.specs.declared.cmp.Ordering.{Ordering}
use Rattle.std.specs.declared.cmp.Ordering.TheVariants.{Less, Equal, Greater}
use Rattle.std.specs.Ordering.{is_lt, is_le, ordering_reverse}
use Rattle.std.proofs.lemmas.Bool.{false≢true}
use Rattle.std.proofs.lemmas.Cmp.{nat_list_cmp_total}
use Rattle.std.proofs.lemmas.List.Elements.{at_read}
use Rattle.uc_bytes.specs.Bytes.{bytes_cmp}
use Rattle.uc_run_entry.specs.Fragment.{Fragment}
use Rattle.uc_run_entry.specs.Order.{AreInOrder}
use Rattle.uc_run_entry.specs.Run.{covers}
use Rattle.uc_run_entry.proofs.Covering.{ends_by, covering, partitioned, found_by}
use Rattle.uc_compact.specs.Fronts.{EndBy, EndAbove, IsFirstAbove}
use denote.Ref.{Bor}

module _ (key : List ℕ) where
  -- of a fragment that ends above the key its begin says whether it covers the key
  above_by : (o : Ordering) → is_le o ≡ false → is_lt (ordering_reverse o) ≡ true
  above_by Less e = absurd (false≢true (sym e))
  above_by Equal e = absurd (false≢true (sym e))
  above_by Greater e = refl

  and_true : (a b : Bool) → b ≡ true → (a && b) ≡ a
  and_true true b e = e
  and_true false b e = refl

  begins_covers : (f : Fragment) → ends_by key f ≡ false → covers f key ≡ is_le (bytes_cmp f.begin key)
  begins_covers f e = and_true (is_le (bytes_cmp f.begin key)) (is_lt (bytes_cmp key f.end)) (ap is_lt (nat_list_cmp_total.antisymm key f.end) ∙ above_by (bytes_cmp f.end key) e)

  module _ (fs : List Fragment) (order : AreInOrder fs) where
    -- where a fragment ends by the key, all before it do
    pub before_place : (place : ℕ) (f : Fragment) → 0 < place → place ≤ length fs → f ≡ get_or fs (place - 1) f → ends_by key f ≡ true → EndBy key fs place
    before_place place f some within is ends k d low high =
        let l : place - 1 < length fs = omega (arith, some, within) in
        partitioned key fs order k (place - 1) d (omega (arith, high)) l (at_read fs (λ g. ends_by key g ≡ true) (place - 1) f l is ends d)

    -- and if one ends above it, all after it do
    pub behind_place : (place : ℕ) (f : Fragment) → place < length fs → f ≡ get_or fs place f → ends_by key f ≡ false → EndAbove key fs place
    behind_place place f within is above k d low high = by (ends_by key (get_or fs k d)) refl
      where
        by : (b : Bool) → ends_by key (get_or fs k d) ≡ b → ends_by key (get_or fs k d) ≡ false
        by true e = absurd (false≢true (sym (at_read fs (λ g. ends_by key g ≡ false) place f within is above d) ∙ partitioned key fs order place k d low high e))
        by false e = e

    by_begin : (place : ℕ) → EndAbove key fs place → (r : Option (Bor Fragment)) → MatchOption r (length fs ≤ place) (λ x. (place < length fs) × HoldsAt (λ y. x.now ≡ y) fs place) →
        MatchOption r (covering key fs ≡ []) (λ x. covering key fs ≡ cond (covers x.now key) (x.now ∷ []) []) →
        MatchOption r (covering key fs ≡ []) (λ x. covering key fs ≡ cond (is_le (bytes_cmp x.now.begin key)) (x.now ∷ []) [])
    by_begin place behind None past none = none
    by_begin place behind (Some x) here found =
        let above : ends_by key x.now ≡ false = ap (ends_by key) (here.1 x.now) ∙ behind place x.now (omega arith) here.0 in
        found ∙ ap (λ b. cond b (x.now ∷ []) []) (begins_covers x.now above)

    -- what the fragment at the place says
    pub found_there : (place : ℕ) → IsFirstAbove key fs place → (r : Option (Bor Fragment)) → MatchOption r (length fs ≤ place) (λ x. (place < length fs) × HoldsAt (λ y. x.now ≡ y) fs place) →
        MatchOption r (covering key fs ≡ []) (λ x. covering key fs ≡ cond (is_le (bytes_cmp x.now.begin key)) (x.now ∷ []) [])
    found_there place first r got = by_begin place first.behind r got (found_by key fs place order first.bound first.before first.behind r got)
