-- Two lists whose first elements are taken away together.
use Rattle.std.proofs.Common.{◌≡◌, Bool, refl, false, IsTrue, List, [], ◌∷◌, drop, Some, None, sym, ap, ◌∙◌}
use Rattle.std.specs.Prelude.{◌↔◌}
use Rattle.std.specs.List.{slice_get}
use Rattle.std.proofs.lemmas.Bool.{false≢true}
use Rattle.std.proofs.lemmas.Option.{none-some, same_Some}

first_and_rest : {X : Type 0} (xs : List X) (x : X) → slice_get xs 0 ≡ Some x → xs ≡ x ∷ drop 1 xs
first_and_rest [] x e = absurd (none-some x e)
first_and_rest {X} (y ∷ xs) x e = ap (λ (z : X). z ∷ xs) (same_Some y x e)

no_first : {X : Type 0} (xs : List X) → slice_get xs 0 ≡ None → xs ≡ []
no_first [] e = refl
no_first (y ∷ xs) e = absurd (none-some y (sym e))

-- they are equal where what is left of both is, and nowhere else
pub record AreAlike {X : Type 0} (xs ys left right : List X) : Type 0 where
  pub to : xs ≡ ys → left ≡ right
  pub back : left ≡ right → xs ≡ ys

pub alike_starts : {X : Type 0} (xs ys : List X) → AreAlike xs ys xs ys
alike_starts {X} xs ys = record { to = λ e. e; back = λ e. e }

pub alike_goes_on : {X : Type 0} (xs ys left right : List X) (x : X) → AreAlike xs ys left right → slice_get left 0 ≡ Some x → slice_get right 0 ≡ Some x → AreAlike xs ys (drop 1 left) (drop 1 right)
alike_goes_on {X} xs ys left right x h e f = record {
  to = λ same. ap (λ (zs : List X). drop 1 zs) (h.to same);
  back = λ same. h.back (first_and_rest left x e ∙ ap (λ (zs : List X). x ∷ zs) same ∙ sym (first_and_rest right x f));
}

-- where their first elements differ, they do
pub alike_stops : {X : Type 0} (xs ys left right : List X) → AreAlike xs ys left right → (slice_get left 0 ≡ slice_get right 0 → ⊥) → IsTrue false ↔ (xs ≡ ys)
alike_stops {X} xs ys left right h other = (
  (λ t. absurd (false≢true t)),
  (λ same. absurd (other (ap (λ (zs : List X). slice_get zs 0) (h.to same)))),
)

-- where one has ended, the other has to
pub alike_ends : {X : Type 0} (xs ys left : List X) (b : Bool) → AreAlike xs ys left [] → IsTrue b ↔ (slice_get left 0 ≡ None) → IsTrue b ↔ (xs ≡ ys)
alike_ends {X} xs ys left b h ended = (
  (λ t. h.back (no_first left (ended.0 t))),
  (λ same. ended.1 (ap (λ (zs : List X). slice_get zs 0) (h.to same))),
)
