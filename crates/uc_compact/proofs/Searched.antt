-- The stripe of a sequence, by a search among the keeps.
use Rattle.std.proofs.Common.{◌≡◌, ℕ, zero, suc, ◌≤◌, true, false, cond, ltb, List, [], ◌∷◌, length, get_or, refl, ap, ◌∙◌, sym, arith}
use Rattle.std.specs.Prelude.{◌-◌, ◌^◌}
use Rattle.std.specs.List.Sorted.{IsStrictlySortedBy, IsPartitionPoint, IsPartitionedBy}
use Rattle.std.specs.declared.cmp.Ordering.TheVariants.{Less}
use Rattle.std.specs.Ordering.{nat_cmp}
use Rattle.std.proofs.lemmas.Bool.Decides.{nat_tests}
use Rattle.std.proofs.lemmas.List.Elements.{All-from_recursion}
use Rattle.uc_compact.specs.Stripes.{Stripe, stripe_from}

below_first : (seq a b : ℕ) → nat_cmp a b ≡ Less → ltb b seq ≡ true → ltb a seq ≡ true
below_first seq a b e f = grind (arith, nat_tests)

-- keeps below a sequence come first
pub keeps_parted : (seq : ℕ) (keeps : List ℕ) → IsStrictlySortedBy nat_cmp keeps → IsPartitionedBy (λ k. ltb k seq) keeps
unfolding IsStrictlySortedBy
keeps_parted seq [] h i j d le l e = absurd (omega (arith, l))
keeps_parted seq (k ∷ ks) h zero zero d le l e = e
keeps_parted seq (k ∷ ks) h zero (suc j) d le l e = below_first seq k (get_or ks j d) (All-from_recursion (λ x. nat_cmp k x ≡ Less) ks h.0 j d (omega (arith, l))) e
keeps_parted seq (k ∷ ks) h (suc i) zero d le l e = absurd (omega (arith, le))
keeps_parted seq (k ∷ ks) h (suc i) (suc j) d le l e = keeps_parted seq ks h.1 i j d (omega (arith, le)) (omega (arith, l)) e

abbrev between : ℕ → ℕ → Stripe
between above upto = record { above = above; upto = upto }

pub stripe_at : (seq above : ℕ) (keeps : List ℕ) (i : ℕ) → i ≤ length keeps → IsPartitionPoint (λ k. ltb k seq ≡ true) (λ k. ltb k seq ≡ false) keeps i →
    between (get_or (above ∷ keeps) i 0) (get_or keeps i (2 ^ 56 - 1)) ≡ stripe_from above keeps seq
stripe_at seq above [] zero le point = refl
stripe_at seq above [] (suc i) le point = absurd (omega (arith, le))
stripe_at seq above (k ∷ ks) zero le point = ap (λ b. cond b (stripe_from k ks seq) (between above k)) (sym (point.1 0 k (omega arith) (omega arith)))
stripe_at seq above (k ∷ ks) (suc i) le point =
    stripe_at seq k ks i (omega (arith, le)) (
      (λ j d l m. point.0 (suc j) d (omega arith) (omega (arith, m))),
      (λ j d l m. point.1 (suc j) d (omega (arith, l)) (omega (arith, m))),
    )
    ∙ ap (λ b. cond b (stripe_from k ks seq) (between above k)) (sym (point.0 0 k (omega arith) (omega arith)))
