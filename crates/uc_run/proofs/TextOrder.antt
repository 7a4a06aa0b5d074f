-- The order of byte strings whose prefixes are equal.
use Rattle.std.proofs.Common.{◌≡◌, ℕ, zero, suc, ◌*◌, ◌-◌, ◌^◌, ◌<◌, ◌≤◌, List, [], ◌∷◌, length, take, drop, refl, sym, ap, ◌∙◌, arith}
use Rattle.std.specs.declared.cmp.Ordering.{Ordering}
use Rattle.std.specs.declared.cmp.Ordering.TheVariants.{Less, Equal, Greater}
use Rattle.std.specs.Ordering.{nat_cmp, ordering_then}
use Rattle.std.proofs.lemmas.Bool.Decides.{nat_tests}
use Rattle.std.proofs.lemmas.List.{take_all, length-drop}
use Rattle.uc_bytes.specs.Bytes.{bytes_cmp}
use Rattle.uc_run.specs.Prefixes.{prefix_of, AreBytes}
use Rattle.uc_run.proofs.PrefixOrder.{number, is_number, outweighs, lower_prefix, higher_prefix}

-- if two byte strings have one number, the bytes after those that it encodes decide
behind_number : (n : ℕ) (xs ys : List ℕ) → AreBytes xs → AreBytes ys → number n xs ≡ number n ys → n ≤ length xs → n ≤ length ys → bytes_cmp xs ys ≡ bytes_cmp (drop n xs) (drop n ys)
behind_number zero xs ys bx by e lx ly = refl
behind_number (suc n) [] ys bx by e lx ly = absurd (omega (arith, lx))
behind_number (suc n) (x ∷ xs) [] bx by e lx ly = absurd (omega (arith, ly))
behind_number (suc n) (x ∷ xs) (y ∷ ys) bx by e lx ly = split (nat_cmp x y) refl (behind_number n xs ys (λ i. bx (suc i)) (λ i. by (suc i)))
  where
    split : (o : Ordering) → nat_cmp x y ≡ o → (number n xs ≡ number n ys → n ≤ length xs → n ≤ length ys → bytes_cmp xs ys ≡ bytes_cmp (drop n xs) (drop n ys)) → ordering_then o (bytes_cmp xs ys) ≡ bytes_cmp (drop n xs) (drop n ys)
    split Less f behind =
        let lt : x < y = grind (arith, nat_tests) in
        absurd (omega (arith, e, outweighs n x y xs ys (λ i. bx (suc i)) lt))
    split Equal f behind =
        let same : x ≡ y = grind (arith, nat_tests) in
        let times : x * 256 ^ n ≡ y * 256 ^ n = ap (λ z. z * 256 ^ n) same in
        behind (omega (arith, e, times)) (omega (arith, lx)) (omega (arith, ly))
    split Greater f behind =
        let lt : y < x = grind (arith, nat_tests) in
        absurd (omega (arith, e, outweighs n y x ys xs (λ i. by (suc i)) lt))

pub behind_prefix : (xs ys : List ℕ) → AreBytes xs → AreBytes ys → prefix_of xs ≡ prefix_of ys → 8 ≤ length xs → 8 ≤ length ys → bytes_cmp xs ys ≡ bytes_cmp (drop 8 xs) (drop 8 ys)
behind_prefix xs ys bx by e lx ly = behind_number 8 xs ys bx by (sym (is_number xs) ∙ e ∙ is_number ys) lx ly

-- unequal prefixes decide
pub other_prefix : (xs ys : List ℕ) (o : Ordering) → AreBytes xs → AreBytes ys → nat_cmp (prefix_of xs) (prefix_of ys) ≡ o → (prefix_of xs ≡ prefix_of ys → ⊥) → bytes_cmp xs ys ≡ o
other_prefix xs ys Less bx by e other = lower_prefix xs ys by (let lt : prefix_of xs < prefix_of ys = grind (arith, nat_tests) in lt)
other_prefix xs ys Equal bx by e other = absurd (other (let same : prefix_of xs ≡ prefix_of ys = grind (arith, nat_tests) in same))
other_prefix xs ys Greater bx by e other = higher_prefix xs ys bx (let lt : prefix_of ys < prefix_of xs = grind (arith, nat_tests) in lt)

-- cutting at the end leaves all bytes after a front
pub cut_off : (n : ℕ) (xs : List ℕ) → take (length xs - n) (drop n xs) ≡ drop n xs
cut_off n xs = take_all (length xs - n) (drop n xs) (let long : length (drop n xs) ≡ length xs - n = length-drop n xs in omega (arith, long))
