-- The first of some points down to the first that overwrites.
use Rattle.std.proofs.Common.{◌≡◌, ℕ, ◌+◌, ◌<◌, ◌≤◌, Bool, true, false, ltb, List, [], length, get_or, take, drop, filter, Some, None, refl, sym, ap, ◌∙◌, arith}
use Rattle.std.specs.Prelude.{not, ◌&&◌}
use Rattle.std.specs.List.{slice_get, AllWithin, HoldsAt}
use Rattle.std.specs.List.Sorted.{IsPartitionedBy}
use Rattle.std.proofs.lemmas.Bool.{false≢true}
use Rattle.std.proofs.lemmas.Bool.Decides.{nat_tests}
use Rattle.std.proofs.lemmas.List.{take-take, get_or-take, length-take-le}
use Rattle.std.proofs.lemmas.List.Sums.{count_by-le-length, length-filter}
use Rattle.std.proofs.lemmas.Option.{get_or_from_slice_get, slice_get-get_or}
use Rattle.uc_run_points.proofs.Searched.{first_at, got_within, passed_point}
use Rattle.uc_oper.specs.Operation.{Operation}
use Rattle.uc_oper.specs.declared.effect.Effect.{Effect}
use Rattle.uc_run_entry.specs.declared.entry.Entry.{Entry}
use Rattle.uc_run_entry.specs.Lookup.{points_effect}
use Rattle.uc_run_entry.specs.Overwriting.{overwrites}
use Rattle.uc_run_entry.proofs.Partitions.{filter-front}
use Rattle.uc_run.proofs.LookupEffects.{lasting_does, not_false}
use Rattle.uc_run.proofs.Passing.{count_point}
use Rattle.uc_run.proofs.Rests.{head_there}

right_true : (b c : Bool) → (b && c) ≡ true → c ≡ true
right_true true c e = e
right_true false c e = absurd (false≢true e)

left_false : (b c : Bool) → (b && c) ≡ false → c ≡ true → b ≡ false
left_false true c e f = absurd (false≢true (sym e ∙ f))
left_false false c e f = refl

module _ (test : Entry → Bool) (points : List Entry) (parted : IsPartitionedBy test points) where
  -- where the first doesn't pass, none does
  pub none_first : (p : Entry) → slice_get points 0 ≡ Some p → test p ≡ false → filter test points ≡ []
  none_first p e fails =
      filter-front test points 0 (omega arith)
      ((λ k d l m. absurd (omega (arith, m))), passed_point test points 0 parted (omega arith) (λ l d. ap test (get_or_from_slice_get points 0 p d e) ∙ fails))

  module _ (count : ℕ) (le : count ≤ length points) (before : AllWithin (λ p. (not (overwrites p) && test p) ≡ true) points 0 count) (m : Operation) (effect : Effect) where
    -- the next one ends them
    pub with_next : (p : Entry) → slice_get (drop count points) 0 ≡ Some p → test p ≡ true → (count < length points → HoldsAt (λ q. (not (overwrites q) && test q) ≡ false) points count) → points_effect m effect (take (count + 1) points) ≡ points_effect m effect (filter test points)
    with_next p next passes there =
        let at : slice_get points count ≡ Some p = first_at points count p next in
        let lt : count < length points = got_within points count p at in
        let is : get_or points count p ≡ p = get_or_from_slice_get points count p p at in
        let here : test (get_or points count p) ≡ true = ap test is ∙ passes in
        let over : overwrites (get_or points count p) ≡ true = not_false (overwrites (get_or points count p)) (left_false (not (overwrites (get_or points count p))) (test (get_or points count p)) (there lt p) here) in
        let many = length (filter test points) in
        let bound : many ≤ length points = let l = length-filter test points in let k = count_by-le-length test points in omega (arith, l, k) in
        let point = count_point test points parted in
        let front : filter test points ≡ take many points = filter-front test points many bound point in
        let more : count < many = by lt here many point.1 (ltb count many) refl in
        let long : length (take many points) ≡ many = length-take-le many points bound in
        ap (points_effect m effect) (sym (take-take (count + 1) many points (omega (arith, more))))
        ∙ lasting_does m effect (take many points) count p (omega (arith, more, long)) (ap overwrites (get_or-take many points count p more) ∙ over)
        ∙ ap (points_effect m effect) (sym front)
      where
        by : count < length points → test (get_or points count p) ≡ true → (many : ℕ) → AllWithin (λ q. test q ≡ false) points many (length points) → (b : Bool) → ltb count many ≡ b → count < many
        by lt here many fails true e = grind (arith, nat_tests)
        by lt here many fails false e = absurd (false≢true (sym (fails count p (grind (arith, nat_tests)) lt) ∙ here))

    -- there is no next one
    pub without_next : (count < length points → HoldsAt (λ q. test q ≡ false) points count) → points_effect m effect (take count points) ≡ points_effect m effect (filter test points)
    without_next there =
        let front = filter-front test points count le ((λ k d l u. right_true (not (overwrites (get_or points k d))) (test (get_or points k d)) (before k d l u)), passed_point test points count parted le there) in
        ap (points_effect m effect) (sym front)

-- none is there, or one that fails
pub at_end : {X : Type 0} (P : X → Type 0) (points : List X) (count : ℕ) → slice_get (drop count points) 0 ≡ None → count < length points → HoldsAt P points count
at_end P points count none lt d = absurd (let some = sym (slice_get-get_or points count d lt) ∙ sym (head_there points count) ∙ none in cc)

pub other_next : (test : Entry → Bool) (points : List Entry) (count : ℕ) (p : Entry) → slice_get (drop count points) 0 ≡ Some p → test p ≡ false → HoldsAt (λ q. test q ≡ false) points count
other_next test points count p next fails d = ap test (get_or_from_slice_get points count p d (first_at points count p next)) ∙ fails
