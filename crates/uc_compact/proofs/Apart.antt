-- Numbers that aren't among sequences.
use Rattle.std.proofs.Common.{◌≡◌, ◌≢◌, ℕ, zero, suc, ◌<◌, Bool, true, false, IsTrue, List, [], ◌∷◌, Contains, length, get_or, filter, leb, refl, sym, ◌∙◌, arith}
use Rattle.std.specs.Prelude.{◌↔◌, Option, Some, None, not}
use Rattle.std.specs.List.{AllByRecursion, slice_get}
use Rattle.std.specs.Option.{is_some}
use Rattle.std.proofs.lemmas.Bool.{false≢true}
use Rattle.std.proofs.lemmas.Option.{none-some}
use Rattle.uc_run_entry.proofs.SeqsFall.{above_all, none_below}

lacks : (n : ℕ) (seqs : List ℕ) → (Contains seqs n → ⊥) → AllByRecursion (λ m. m ≢ n) seqs
lacks n [] none = tt
lacks n (x ∷ seqs) none = (
  (λ e. none (0, omega arith, e)),
  lacks n seqs (λ there. none (suc there.0, omega (arith, there.1), there.2)),
)

other_at : (n : ℕ) (seqs : List ℕ) (k d : ℕ) → k < length seqs → AllByRecursion (λ m. m ≢ n) seqs → get_or seqs k d ≢ n
other_at n [] k d l h = absurd (omega (arith, l))
other_at n (x ∷ seqs) zero d l h = h.0
other_at n (x ∷ seqs) (suc k) d l h = other_at n seqs k d (omega (arith, l)) h.1

not_true : (b : Bool) → IsTrue (not b) → IsTrue b → ⊥
not_true true t u = false≢true t
not_true false t u = false≢true u

true_not : (b : Bool) → (IsTrue b → ⊥) → IsTrue (not b)
true_not true n = absurd (n refl)
true_not false n = refl

pub apart_by : (n : ℕ) (seqs : List ℕ) (b : Bool) → IsTrue b ↔ Contains seqs n → IsTrue (not b) ↔ AllByRecursion (λ m. m ≢ n) seqs
apart_by n seqs b among = (
  (λ t. lacks n seqs (λ there. not_true b t (among.1 there))),
  (λ all. true_not b (λ t. let there : Contains seqs n = among.0 t in other_at n seqs there.0 n there.1 all there.2)),
)

-- all are above a number, if none is at or below it
none_by : (o : Option ℕ) (b : Bool) → is_some o ≡ not b → IsTrue b ↔ (o ≡ None)
none_by None true e = ((λ t. refl), (λ none. refl))
none_by None false e = absurd (false≢true e)
none_by (Some n) true e = absurd (false≢true (sym e))
none_by (Some n) false e = ((λ t. absurd (false≢true t)), (λ none. absurd (none-some n (sym none))))

pub above_by : (n : ℕ) (seqs : List ℕ) (found : Option ℕ) (b : Bool) → found ≡ slice_get (filter (λ m. leb m n) seqs) 0 → is_some found ≡ not b → IsTrue b ↔ AllByRecursion (λ m. n < m) seqs
above_by n seqs found b e f =
    let none : IsTrue b ↔ (found ≡ None) = none_by found b f in
    ((λ t. above_all n seqs (sym e ∙ none.0 t)), (λ all. none.1 (e ∙ none_below n seqs all)))
