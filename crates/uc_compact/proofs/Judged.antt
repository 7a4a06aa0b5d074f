-- Facts that follow from a test of each element, or of neighbours.
use Rattle.std.proofs.Common.{◌≡◌, ℕ, zero, suc, ◌<◌, Bool, true, false, ltb, IsTrue, List, [], ◌∷◌, length, get_or, refl, arith}
use Rattle.std.specs.Prelude.{◌↔◌}
use Rattle.std.specs.List.{AllByRecursion, AllWithin, HoldsAt, IsAllAdjacentAnswer}
use Rattle.std.specs.List.Sorted.{IsStrictlySortedBy}
use Rattle.std.specs.declared.cmp.Ordering.TheVariants.{Less}
use Rattle.std.specs.Ordering.{nat_cmp}
use Rattle.std.proofs.lemmas.Bool.{false≢true}
use Rattle.std.specs.Bool.{MatchBool}
use Rattle.std.proofs.lemmas.Bool.Decides.{nat_tests}
use Rattle.std.proofs.lemmas.Cmp.{nat_cmp_total, back_total, on_total}
use Rattle.uc_run_entry.specs.declared.entry.Entry.{Entry}
use Rattle.uc_run_entry.proofs.Neighbours.{sorted_by}
use Rattle.uc_compact.specs.Choice.{PointsFall}

-- numbers that rise
tells_less : (a b : ℕ) → IsTrue (ltb a b) ↔ (nat_cmp a b ≡ Less)
tells_less a b = ((λ t. grind (arith, nat_tests)), (λ e. grind (arith, nat_tests)))

pub rising_by : (ns : List ℕ) (b : Bool) → IsAllAdjacentAnswer (λ x y r. r ≡ ltb x y) ns b → IsTrue b ↔ IsStrictlySortedBy nat_cmp ns
rising_by ns b h = sorted_by nat_cmp nat_cmp_total (λ x y. ltb x y) tells_less ns b h

-- what a test of each element answers
module _ {X : Type 0} (P : X → Type 0) where
  from_within : (xs : List X) → AllWithin P xs 0 (length xs) → AllByRecursion P xs
  from_within [] h = tt
  from_within (x ∷ xs) h = (h 0 x (omega arith) (omega arith), from_within xs (λ k d a b. h (suc k) d (omega arith) (omega (arith, b))))

  at_place : (xs : List X) (k : ℕ) → k < length xs → AllByRecursion P xs → (d : X) → P (get_or xs k d)
  at_place [] k l h d = absurd (omega (arith, l))
  at_place (x ∷ xs) zero l h d = h.0
  at_place (x ∷ xs) (suc k) l h d = at_place xs k (omega (arith, l)) h.1 d

  fails_at : (xs : List X) (k : ℕ) → k < length xs → HoldsAt (λ x. P x → ⊥) xs k → AllByRecursion P xs → ⊥
  fails_at [] k l fails h = omega (arith, l)
  fails_at (x ∷ xs) k l fails h = fails x (at_place (x ∷ xs) k l h x)

  pub all_by : (xs : List X) (b : Bool) → MatchBool b (AllWithin P xs 0 (length xs)) ((k : ℕ) × (k < length xs) × HoldsAt (λ x. P x → ⊥) xs k) → IsTrue b ↔ AllByRecursion P xs
  all_by xs true h = ((λ t. from_within xs h), (λ all. refl))
  all_by xs false h = ((λ t. absurd (false≢true t)), (λ all. absurd (fails_at xs h.0 h.1 h.2 all)))

-- points by falling sequence
pub falling_by : (ps : List Entry) (b : Bool) → IsAllAdjacentAnswer (λ (p q : Entry) r. r ≡ ltb q.seq p.seq) ps b → IsTrue b ↔ PointsFall ps
falling_by ps b h = sorted_by (λ (p q : Entry). nat_cmp q.seq p.seq) (back_total (on_total (λ (p : Entry). p.seq) nat_cmp_total)) (λ p q. ltb q.seq p.seq) (λ p q. tells_less q.seq p.seq) ps b h
