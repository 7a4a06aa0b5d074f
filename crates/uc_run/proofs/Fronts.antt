-- The front that keys in order have in common.
use Rattle.std.proofs.Common.{◌≡◌, ℕ, zero, suc, ◌+◌, ◌≤◌, Bool, true, false, cond, eqb, List, [], ◌∷◌, ◌++◌, length, take, drop, min, refl, sym, ap, ◌∙◌, subst, arith}
use Rattle.std.specs.Prelude.{◌&&◌}
use Rattle.std.specs.List.{common_prefix_len}
use Rattle.std.specs.declared.cmp.Ordering.{Ordering}
use Rattle.std.specs.declared.cmp.Ordering.TheVariants.{Less, Equal, Greater}
use Rattle.std.specs.Ordering.{nat_cmp, ordering_then, is_le}
use Rattle.std.proofs.lemmas.Bool.{false≢true}
use Rattle.std.proofs.lemmas.Bool.Decides.{nat_tests}
use Rattle.uc_bytes.specs.Bytes.{bytes_cmp, same_bytes}

abbrev common : List ℕ → List ℕ → ℕ
common xs ys = common_prefix_len eqb xs ys

-- after the last byte of the shorter one nothing is common
pub none_behind : (n : ℕ) (xs ys : List ℕ) → n ≡ min (length xs) (length ys) → common (drop n xs) (drop n ys) ≡ 0
none_behind zero [] ys e = refl
none_behind (suc n) [] ys e = refl
none_behind zero (x ∷ xs) [] e = refl
none_behind zero (x ∷ xs) (y ∷ ys) e = absurd (omega (arith, e))
none_behind (suc n) (x ∷ xs) [] e = absurd (omega (arith, e))
none_behind (suc n) (x ∷ xs) (y ∷ ys) e = none_behind n xs ys (omega (arith, e))

-- what stands between two keys has their common front
pub record Begins (s : ℕ) (front ys : List ℕ) : Type 0 where
  pub long : s ≤ length ys
  pub same : take s ys ≡ take s front

begins_later : (s x y : ℕ) (xs ys : List ℕ) → x ≡ y → Begins s xs ys → Begins (suc s) (x ∷ xs) (y ∷ ys)
begins_later s x y xs ys e rest = record {
  long = let long : s ≤ length ys = rest.long in omega (arith, long);
  same = ap (λ z. z ∷ take s ys) (sym e) ∙ ap (λ (zs : List ℕ). x ∷ zs) rest.same;
}

pub between : (xs ys zs : List ℕ) → is_le (bytes_cmp xs ys) ≡ true → is_le (bytes_cmp ys zs) ≡ true → Begins (common xs zs) xs ys
between [] ys zs p q = record { long = omega arith; same = refl }
between (x ∷ xs) ys [] p q = record { long = omega arith; same = refl }
between (x ∷ xs) [] (z ∷ zs) p q = absurd (false≢true p)
between (x ∷ xs) (y ∷ ys) (z ∷ zs) p q = by (eqb x z) refl (between xs ys zs)
  where
    inner : (o r : Ordering) → x ≡ z → nat_cmp x y ≡ o → nat_cmp y z ≡ r → is_le (ordering_then o (bytes_cmp xs ys)) ≡ true → is_le (ordering_then r (bytes_cmp ys zs)) ≡ true → (is_le (bytes_cmp xs ys) ≡ true → is_le (bytes_cmp ys zs) ≡ true → Begins (common xs zs) xs ys) → Begins (suc (common xs zs)) (x ∷ xs) (y ∷ ys)
    inner Less Less e f g p q behind = absurd (grind (arith, nat_tests))
    inner Less Equal e f g p q behind = absurd (grind (arith, nat_tests))
    inner Less Greater e f g p q behind = absurd (false≢true q)
    inner Equal Less e f g p q behind = absurd (grind (arith, nat_tests))
    inner Equal Equal e f g p q behind = let same : x ≡ y = grind (arith, nat_tests) in begins_later (common xs zs) x y xs ys same (behind p q)
    inner Equal Greater e f g p q behind = absurd (false≢true q)
    inner Greater r e f g p q behind = absurd (false≢true p)

    by : (b : Bool) → eqb x z ≡ b → (is_le (bytes_cmp xs ys) ≡ true → is_le (bytes_cmp ys zs) ≡ true → Begins (common xs zs) xs ys) → Begins (cond b (1 + common xs zs) 0) (x ∷ xs) (y ∷ ys)
    by true e behind = let same : x ≡ z = grind (arith, nat_tests) in subst (λ s. Begins s (x ∷ xs) (y ∷ ys)) (omega arith) (inner (nat_cmp x y) (nat_cmp y z) same refl refl p q behind)
    by false e behind = record { long = omega arith; same = refl }

-- a common front doesn't decide
pub behind_front : (front xs ys : List ℕ) → bytes_cmp (front ++ xs) (front ++ ys) ≡ bytes_cmp xs ys
behind_front [] xs ys = refl
behind_front (z ∷ front) xs ys =
    let tie : nat_cmp z z ≡ Equal = grind (arith, nat_tests) in
    ap (λ o. ordering_then o (bytes_cmp (front ++ xs) (front ++ ys))) tie ∙ behind_front front xs ys

-- and one that a key hasn't decides for all that have it
pub other_front : (front xs ys low : List ℕ) → same_bytes (take (length front) low) front ≡ false → bytes_cmp (front ++ xs) low ≡ bytes_cmp (front ++ ys) low
other_front [] xs ys low other = absurd (false≢true (sym other))
other_front (z ∷ front) xs ys [] other = refl
other_front (z ∷ front) xs ys (l ∷ low) other = by (nat_cmp z l) refl (other_front front xs ys low)
  where
    rest_other : (b c : Bool) → b ≡ true → (b && c) ≡ false → c ≡ false
    rest_other true c e h = h
    rest_other false c e h = absurd (false≢true e)

    by : (o : Ordering) → nat_cmp z l ≡ o → (same_bytes (take (length front) low) front ≡ false → bytes_cmp (front ++ xs) low ≡ bytes_cmp (front ++ ys) low) → ordering_then o (bytes_cmp (front ++ xs) low) ≡ ordering_then o (bytes_cmp (front ++ ys) low)
    by Less e behind = refl
    by Equal e behind =
        let head : eqb l z ≡ true = grind (arith, nat_tests) in
        behind (rest_other (eqb l z) (same_bytes (take (length front) low) front) head other)
    by Greater e behind = refl
