-- Prefixes rise with the bytes.
use Rattle.std.proofs.Common.{◌≡◌, ℕ, zero, suc, ◌+◌, ◌*◌, ◌-◌, ◌^◌, ◌<◌, ◌≤◌, true, List, [], ◌∷◌, length, min, take, drop, refl, sym, ap, ◌∙◌, arith}
use Rattle.std.specs.declared.cmp.Ordering.{Ordering}
use Rattle.std.specs.declared.cmp.Ordering.TheVariants.{Less, Equal, Greater}
use Rattle.std.specs.Ordering.{nat_cmp, ordering_then, ordering_reverse, is_le}
use Rattle.std.proofs.Math.Nat.{pow-suc, suc-mul, mul-le-mul_right, one-le-pow}
use Rattle.std.proofs.lemmas.Nat.{mul-add-lt}
use Rattle.std.proofs.lemmas.Bool.Decides.{nat_tests}
use Rattle.std.proofs.lemmas.Cmp.{nat_list_cmp_total}
use Rattle.uc_bytes.specs.Bytes.{bytes_cmp}
use Rattle.uc_run.specs.Prefixes.{prefix_of, AreBytes}

pub bytes_behind : (n : ℕ) (xs : List ℕ) → AreBytes xs → AreBytes (drop n xs)
bytes_behind zero xs h = h
bytes_behind (suc n) [] h = h
bytes_behind (suc n) (x ∷ xs) h = bytes_behind n xs (λ i. h (suc i))

-- the first n bytes, the first one worth the most
abbrev pub number : ℕ → List ℕ → ℕ
number zero xs = 0
number (suc n) [] = 0
number (suc n) (x ∷ xs) = x * 256 ^ n + number n xs

pub is_number : (xs : List ℕ) → prefix_of xs ≡ number 8 xs
unfolding prefix_of
is_number [] = refl
is_number (a ∷ []) = omega arith
is_number (a ∷ b ∷ []) = omega arith
is_number (a ∷ b ∷ c ∷ []) = omega arith
is_number (a ∷ b ∷ c ∷ d ∷ []) = omega arith
is_number (a ∷ b ∷ c ∷ d ∷ e ∷ []) = omega arith
is_number (a ∷ b ∷ c ∷ d ∷ e ∷ f ∷ []) = omega arith
is_number (a ∷ b ∷ c ∷ d ∷ e ∷ f ∷ g ∷ []) = omega arith
is_number (a ∷ b ∷ c ∷ d ∷ e ∷ f ∷ g ∷ h ∷ rest) = omega arith

-- the bytes after the eighth don't count
pub prefix_of-take : (xs : List ℕ) → prefix_of (take 8 xs) ≡ prefix_of xs
prefix_of-take [] = refl
prefix_of-take (a ∷ []) = refl
prefix_of-take (a ∷ b ∷ []) = refl
prefix_of-take (a ∷ b ∷ c ∷ []) = refl
prefix_of-take (a ∷ b ∷ c ∷ d ∷ []) = refl
prefix_of-take (a ∷ b ∷ c ∷ d ∷ e ∷ []) = refl
prefix_of-take (a ∷ b ∷ c ∷ d ∷ e ∷ f ∷ []) = refl
prefix_of-take (a ∷ b ∷ c ∷ d ∷ e ∷ f ∷ g ∷ []) = refl
prefix_of-take (a ∷ b ∷ c ∷ d ∷ e ∷ f ∷ g ∷ h ∷ rest) = is_number (a ∷ b ∷ c ∷ d ∷ e ∷ f ∷ g ∷ h ∷ []) ∙ sym (is_number (a ∷ b ∷ c ∷ d ∷ e ∷ f ∷ g ∷ h ∷ rest))

number_below : (n : ℕ) (xs : List ℕ) → AreBytes xs → number n xs < 256 ^ n
number_below zero xs bytes = omega arith
number_below (suc n) [] bytes = one-le-pow (suc n) 256 (omega arith)
number_below (suc n) (x ∷ xs) bytes =
    rw (pow-suc 256 n) (mul-add-lt x (256 ^ n) (number n xs) 256 (bytes 0) (number_below n xs (λ i. bytes (suc i))))

number_le : (n : ℕ) (xs ys : List ℕ) → AreBytes xs → is_le (bytes_cmp xs ys) ≡ true → number n xs ≤ number n ys
number_le zero xs ys bytes le = omega arith
number_le (suc n) [] ys bytes le = omega arith
number_le (suc n) (x ∷ xs) [] bytes le = absurd cc
number_le (suc n) (x ∷ xs) (y ∷ ys) bytes le = by (nat_cmp x y) refl le (number_le n xs ys (λ i. bytes (suc i)))
  where
    by : (o : Ordering) → nat_cmp x y ≡ o → is_le (ordering_then o (bytes_cmp xs ys)) ≡ true → (is_le (bytes_cmp xs ys) ≡ true → number n xs ≤ number n ys) → x * 256 ^ n + number n xs ≤ y * 256 ^ n + number n ys
    by Less e le behind =
        let lt : suc x ≤ y = grind (arith, nat_tests) in
        let up : suc x * 256 ^ n ≤ y * 256 ^ n = mul-le-mul_right (256 ^ n) lt in
        omega (arith, up, suc-mul x (256 ^ n), number_below n xs (λ i. bytes (suc i)))
    by Equal e le behind =
        let same : x ≡ y = grind (arith, nat_tests) in
        let rest : number n xs ≤ number n ys = behind le in
        rw same (omega (arith, rest))
    by Greater e le behind = absurd cc

pub prefix_le : (xs ys : List ℕ) → AreBytes xs → is_le (bytes_cmp xs ys) ≡ true → prefix_of xs ≤ prefix_of ys
prefix_le xs ys bytes le = omega (arith, is_number xs, is_number ys, number_le 8 xs ys bytes le)

pub prefix_bound : (xs : List ℕ) → AreBytes xs → prefix_of xs ≤ 2 ^ 64 - 1
prefix_bound xs bytes = omega (arith, is_number xs, number_below 8 xs bytes)

-- so what has the lower prefix is below
pub lower_prefix : (xs ys : List ℕ) → AreBytes ys → prefix_of xs < prefix_of ys → bytes_cmp xs ys ≡ Less
lower_prefix xs ys bytes lower = by (bytes_cmp xs ys) refl
  where
    back : (o : Ordering) → bytes_cmp xs ys ≡ o → is_le (ordering_reverse o) ≡ true → ⊥
    back o e le =
        let turned : is_le (bytes_cmp ys xs) ≡ true = ap is_le (nat_list_cmp_total.antisymm ys xs ∙ ap ordering_reverse e) ∙ le in
        omega (arith, lower, prefix_le ys xs bytes turned)

    by : (o : Ordering) → bytes_cmp xs ys ≡ o → o ≡ Less
    by Less e = refl
    by Equal e = absurd (back Equal e refl)
    by Greater e = absurd (back Greater e refl)

pub higher_prefix : (xs ys : List ℕ) → AreBytes xs → prefix_of ys < prefix_of xs → bytes_cmp xs ys ≡ Greater
higher_prefix xs ys bytes higher = nat_list_cmp_total.antisymm xs ys ∙ ap ordering_reverse (lower_prefix ys xs bytes higher)

-- ---- one prefix

pub less_is : (a b : ℕ) → a < b → nat_cmp a b ≡ Less
less_is a b lt = grind (arith, nat_tests)

pub greater_is : (a b : ℕ) → b < a → nat_cmp a b ≡ Greater
greater_is a b lt = grind (arith, nat_tests)

one_more : (a b : ℕ) (o : Ordering) → nat_cmp a b ≡ o → nat_cmp (suc a) (suc b) ≡ o
one_more a b Less e = less_is (suc a) (suc b) (let lt : a < b = grind (arith, nat_tests) in omega (arith, lt))
one_more a b Equal e = let same : a ≡ b = grind (arith, nat_tests) in grind (arith, nat_tests)
one_more a b Greater e = greater_is (suc a) (suc b) (let lt : b < a = grind (arith, nat_tests) in omega (arith, lt))

-- a first byte that is higher outweighs the others
pub outweighs : (n x y : ℕ) (xs ys : List ℕ) → AreBytes xs → x < y → x * 256 ^ n + number n xs < y * 256 ^ n + number n ys
outweighs n x y xs ys bytes lt =
    let up : suc x * 256 ^ n ≤ y * 256 ^ n = mul-le-mul_right (256 ^ n) lt in
    omega (arith, up, suc-mul x (256 ^ n), number_below n xs bytes)

-- of two lists with one number the shorter is below, if the number encodes all of it
equal_number : (n : ℕ) (xs ys : List ℕ) → AreBytes xs → AreBytes ys → number n xs ≡ number n ys → min (length xs) (length ys) ≤ n → bytes_cmp xs ys ≡ nat_cmp (length xs) (length ys)
equal_number n [] [] bx by e le = refl
equal_number n [] (y ∷ ys) bx by e le = sym (less_is 0 (length (y ∷ ys)) (omega arith))
equal_number n (x ∷ xs) [] bx by e le = sym (greater_is (length (x ∷ xs)) 0 (omega arith))
equal_number zero (x ∷ xs) (y ∷ ys) bx by e le = absurd (omega (arith, le))
equal_number (suc n) (x ∷ xs) (y ∷ ys) bx by e le = split (nat_cmp x y) refl (equal_number n xs ys (λ i. bx (suc i)) (λ i. by (suc i)))
  where
    split : (o : Ordering) → nat_cmp x y ≡ o → (number n xs ≡ number n ys → min (length xs) (length ys) ≤ n → bytes_cmp xs ys ≡ nat_cmp (length xs) (length ys)) → ordering_then o (bytes_cmp xs ys) ≡ nat_cmp (length (x ∷ xs)) (length (y ∷ ys))
    split Less f behind =
        let lt : x < y = grind (arith, nat_tests) in
        absurd (omega (arith, e, outweighs n x y xs ys (λ i. bx (suc i)) lt))
    split Equal f behind =
        let same : x ≡ y = grind (arith, nat_tests) in
        let times : x * 256 ^ n ≡ y * 256 ^ n = ap (λ z. z * 256 ^ n) same in
        behind (omega (arith, e, times)) (omega (arith, le)) ∙ sym (one_more (length xs) (length ys) (nat_cmp (length xs) (length ys)) refl)
    split Greater f behind =
        let lt : y < x = grind (arith, nat_tests) in
        absurd (omega (arith, e, outweighs n y x ys xs (λ i. by (suc i)) lt))

pub equal_prefix : (xs ys : List ℕ) → AreBytes xs → AreBytes ys → prefix_of xs ≡ prefix_of ys → min (length xs) (length ys) ≤ 8 → bytes_cmp xs ys ≡ nat_cmp (length xs) (length ys)
equal_prefix xs ys bx by e le = equal_number 8 xs ys bx by (sym (is_number xs) ∙ e ∙ is_number ys) le
