-- The elements of a list that pass a test, if they are those between two places.
use Rattle.std.proofs.Common.{◌≡◌, ℕ, zero, suc, ◌<◌, ◌≤◌, Bool, true, false, cond, List, [], ◌∷◌, length, get_or, drop, filter, refl, ap, ◌∙◌, arith}

-- none of the first ones, and each of those after them
pub record IsBack {X : Type 0} (test : X → Bool) (xs : List X) (n : ℕ) : Type 0 where
  pub within : n ≤ length xs
  pub before : (k : ℕ) (d : X) → k < n → test (get_or xs k d) ≡ false
  pub behind : (k : ℕ) (d : X) → n ≤ k → k < length xs → test (get_or xs k d) ≡ true

module _ {X : Type 0} (test : X → Bool) where
  pub filter-back : (xs : List X) (n : ℕ) → IsBack test xs n → filter test xs ≡ drop n xs
  filter-back [] zero c = refl
  filter-back [] (suc n) c = absurd (omega (arith, c.within))
  filter-back (x ∷ xs) zero c =
      let rest : IsBack test xs 0 = record {
        within = omega arith;
        before = λ k d l. absurd (omega (arith, l));
        behind = λ k d l m. c.behind (suc k) d (omega arith) (omega (arith, m));
      } in
      ap (λ b. cond b (x ∷ filter test xs) (filter test xs)) (c.behind 0 x (omega arith) (omega arith)) ∙ ap (λ (ys : List X). x ∷ ys) (filter-back xs 0 rest)
  filter-back (x ∷ xs) (suc n) c =
      let rest : IsBack test xs n = record {
        within = omega (arith, c.within);
        before = λ k d l. c.before (suc k) d (omega (arith, l));
        behind = λ k d l m. c.behind (suc k) d (omega (arith, l)) (omega (arith, m));
      } in
      ap (λ b. cond b (x ∷ filter test xs) (filter test xs)) (c.before 0 x (omega arith)) ∙ filter-back xs n rest
