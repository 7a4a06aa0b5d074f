-- Two lists whose first elements are taken away together.
use Rattle.std.proofs.Common.{◌≡◌, ℕ, Bool, false, IsTrue, List, [], ◌∷◌, drop, Some, None, sym, ap, ◌∙◌}
use Rattle.std.specs.Prelude.{◌↔◌}
use Rattle.std.specs.List.{slice_get}
use Rattle.std.proofs.lemmas.Bool.{false≢true}
use Rattle.uc_run_entry.proofs.Listed.{first_and_rest, no_first}

-- they are equal where what is left of both is, and nowhere else
pub record AreAlike (xs ys left right : List ℕ) : Type 0 where
  pub to : xs ≡ ys → left ≡ right
  pub back : left ≡ right → xs ≡ ys

pub alike_starts : (xs ys : List ℕ) → AreAlike xs ys xs ys
alike_starts xs ys = record { to = λ e. e; back = λ e. e }

pub alike_goes_on : (xs ys left right : List ℕ) (x : ℕ) → AreAlike xs ys left right → slice_get left 0 ≡ Some x → slice_get right 0 ≡ Some x → AreAlike xs ys (drop 1 left) (drop 1 right)
alike_goes_on xs ys left right x h e f = record {
  to = λ same. ap (λ (zs : List ℕ). drop 1 zs) (h.to same);
  back = λ same. h.back (first_and_rest left x e ∙ ap (λ (zs : List ℕ). x ∷ zs) same ∙ sym (first_and_rest right x f));
}

-- where their first elements differ, they do
pub alike_stops : (xs ys left right : List ℕ) → AreAlike xs ys left right → (slice_get left 0 ≡ slice_get right 0 → ⊥) → IsTrue false ↔ (xs ≡ ys)
alike_stops xs ys left right h other = (
  (λ t. absurd (false≢true t)),
  (λ same. absurd (other (ap (λ (zs : List ℕ). slice_get zs 0) (h.to same)))),
)

-- where one has ended, the other has to
pub alike_ends : (xs ys left : List ℕ) (b : Bool) → AreAlike xs ys left [] → IsTrue b ↔ (slice_get left 0 ≡ None) → IsTrue b ↔ (xs ≡ ys)
alike_ends xs ys left b h ended = (
  (λ t. h.back (no_first left (ended.0 t))),
  (λ same. ended.1 (ap (λ (zs : List ℕ). slice_get zs 0) (h.to same))),
)
