-- Bytes that end with no part, step by step.
use Rattle.std.proofs.Common.{◌≡◌, ℕ, ◌+◌, ◌-◌, ◌*◌, ◌/◌, ◌%◌, ◌<◌, ◌≤◌, nat_lt, ◌==◌, Bool, true, false, List, [], ◌∷◌, ◌++◌, length, Some, None, ap, ◌∙◌, sym, refl, arith, append_assoc, ◌≢◌, get_or, take, drop, if◌then◌else◌}
use Rattle.std.proofs.lemmas.Bool.Decides.{nat_tests}
use Rattle.uc_mixed.specs.declared.part_kind.PartKind.{PartKind}
use Rattle.uc_mixed.specs.declared.part_kind.PartKind.TheVariants.{Tail}
use Rattle.uc_mixed.specs.Parts.{back, backward, backward-append, backward-twice, length-backward, kind_back, kind_back-own, length_back, length_back-own, long_back, count_back, cut, cut_kind, cut_length, cut_payload, kind_bytes, length_bytes, long_bytes, numbered_back}

-- the last byte is the first one backward
pub backward-last : (rest : List ℕ) (n : ℕ) → backward (rest ++ n ∷ []) ≡ n ∷ backward rest
backward-last rest n = backward-append rest (n ∷ [])

-- with an operator at the end
pub cut-after_kind : (rest : List ℕ) (kind : PartKind) → cut (rest ++ kind_bytes kind) ≡ cut_length kind (length_back (backward rest))
cut-after_kind rest kind = ap (λ (l : List ℕ). cut_kind (kind_back l)) (backward-append rest (kind_bytes kind)) ∙ ap cut_kind (kind_back-own kind (backward rest))

pub cut-no_length : (rest : List ℕ) (kind : PartKind) → length_back (backward rest) ≡ None → cut (rest ++ kind_bytes kind) ≡ None
cut-no_length rest kind n = cut-after_kind rest kind ∙ ap (cut_length kind) n

pub cut-no_payload : (before : List ℕ) (kind : PartKind) (n : ℕ) → length before < n → cut (before ++ (length_bytes n ++ kind_bytes kind)) ≡ None
cut-no_payload before kind n lt =
    let short : nat_lt (length before) n ≡ true = grind (arith, nat_tests) in
    ap cut (sym (append_assoc before (length_bytes n) (kind_bytes kind)))
    ∙ cut-after_kind (before ++ length_bytes n) kind
    ∙ ap (λ (l : List ℕ). cut_length kind (length_back l)) (backward-append before (length_bytes n))
    ∙ ap (cut_length kind) (length_back-own n (backward before))
    ∙ ap (cut_payload kind n) (backward-twice before)
    ∙ ap (λ (b : Bool). if b then None else Some (record { kind = kind; payload = drop (length before - n) before; rest = take (length before - n) before })) short

-- few bytes
pub few_back : (before : List ℕ) → length before < 4 → long_back before ≡ None
few_back [] lt = refl
few_back (d ∷ []) lt = refl
few_back (d ∷ c ∷ []) lt = refl
few_back (d ∷ c ∷ b ∷ []) lt = refl
few_back (d ∷ c ∷ b ∷ a ∷ before) lt = absurd (omega arith)

pub none_back : (before : List ℕ) → length before < 2 → count_back before ≡ None
none_back [] lt = refl
none_back (d ∷ []) lt = refl
none_back (d ∷ c ∷ before) lt = absurd (omega arith)

pub few_bytes : (bytes : List ℕ) → length bytes < 4 → length_back (backward (bytes ++ 255 ∷ [])) ≡ None
few_bytes bytes lt = ap length_back (backward-last bytes 255) ∙ few_back (backward bytes) (let e = length-backward bytes in omega (arith, e))

pub no_count : (bytes : List ℕ) → length bytes < 2 → kind_back (backward (bytes ++ 10 ∷ [])) ≡ None
no_count bytes lt = ap kind_back (backward-last bytes 10) ∙ none_back (backward bytes) (let e = length-backward bytes in omega (arith, e))

-- two and four bytes by their places
pub two_bytes : (l : List ℕ) → length l ≡ 2 → l ≡ get_or l 0 0 ∷ get_or l 1 0 ∷ []
two_bytes [] e = absurd (omega arith)
two_bytes (a ∷ []) e = absurd (omega arith)
two_bytes (a ∷ b ∷ []) e = refl
two_bytes (a ∷ b ∷ c ∷ l) e = absurd (omega arith)

pub four_bytes : (l : List ℕ) → length l ≡ 4 → l ≡ get_or l 0 0 ∷ get_or l 1 0 ∷ get_or l 2 0 ∷ get_or l 3 0 ∷ []
four_bytes [] e = absurd (omega arith)
four_bytes (a ∷ []) e = absurd (omega arith)
four_bytes (a ∷ b ∷ []) e = absurd (omega arith)
four_bytes (a ∷ b ∷ c ∷ []) e = absurd (omega arith)
four_bytes (a ∷ b ∷ c ∷ d ∷ []) e = refl
four_bytes (a ∷ b ∷ c ∷ d ∷ f ∷ l) e = absurd (omega arith)

pub tail_bytes : (a b : ℕ) → a < 256 → a ∷ b ∷ 10 ∷ [] ≡ kind_bytes (Tail (a + 256 * b))
tail_bytes a b p =
    let low : (a + 256 * b) % 256 ≡ a = omega arith in
    let high : (a + 256 * b) / 256 ≡ b = omega arith in
    sym (ap (λ (n : ℕ). n ∷ (a + 256 * b) / 256 ∷ 10 ∷ []) low ∙ ap (λ (n : ℕ). a ∷ n ∷ 10 ∷ []) high)

abbrev pub number_of_four : ℕ → ℕ → ℕ → ℕ → ℕ
number_of_four a b c d = a + 256 * (b + 256 * (c + 256 * d))

pub long_spelled : (a b c d : ℕ) → a < 256 → b < 256 → c < 256 → 255 ≤ number_of_four a b c d → a ∷ b ∷ c ∷ d ∷ 255 ∷ [] ≡ length_bytes (number_of_four a b c d)
long_spelled a b c d p q r le =
    let n = number_of_four a b c d in
    let x : n % 256 ≡ a = omega arith in
    let y : n / 256 ≡ b + 256 * (c + 256 * d) = omega arith in
    let z : (b + 256 * (c + 256 * d)) % 256 ≡ b = omega arith in
    let y2 : (b + 256 * (c + 256 * d)) / 256 ≡ c + 256 * d = omega arith in
    let z2 : (c + 256 * d) % 256 ≡ c = omega arith in
    let y3 : (c + 256 * d) / 256 ≡ d = omega arith in
    let second : n / 256 % 256 ≡ b = ap (λ (m : ℕ). m % 256) y ∙ z in
    let half : n / 256 / 256 ≡ c + 256 * d = ap (λ (m : ℕ). m / 256) y ∙ y2 in
    let third : n / 256 / 256 % 256 ≡ c = ap (λ (m : ℕ). m % 256) half ∙ z2 in
    let fourth : n / 256 / 256 / 256 ≡ d = ap (λ (m : ℕ). m / 256) half ∙ y3 in
    let long : nat_lt n 255 ≡ false = grind (arith, nat_tests) in
    sym (ap (λ (b : Bool). if b then n ∷ [] else long_bytes n) long
    ∙ ap (λ (m : ℕ). m ∷ n / 256 % 256 ∷ n / 256 / 256 % 256 ∷ n / 256 / 256 / 256 ∷ 255 ∷ []) x
    ∙ ap (λ (m : ℕ). a ∷ m ∷ n / 256 / 256 % 256 ∷ n / 256 / 256 / 256 ∷ 255 ∷ []) second
    ∙ ap (λ (m : ℕ). a ∷ b ∷ m ∷ n / 256 / 256 / 256 ∷ 255 ∷ []) third
    ∙ ap (λ (m : ℕ). a ∷ b ∷ c ∷ m ∷ 255 ∷ []) fourth)

pub long_none : (rest : List ℕ) (a b c d : ℕ) → number_of_four a b c d < 255 → length_back (backward ((rest ++ a ∷ b ∷ c ∷ d ∷ []) ++ 255 ∷ [])) ≡ None
long_none rest a b c d lt =
    let n = number_of_four a b c d in
    let short : nat_lt n 255 ≡ true = grind (arith, nat_tests) in
    ap length_back (backward-last (rest ++ a ∷ b ∷ c ∷ d ∷ []) 255)
    ∙ ap long_back (backward-append rest (a ∷ b ∷ c ∷ d ∷ []))
    ∙ ap (λ (t : Bool). if t then None else back n (backward rest)) short

pub short_spelled : (n : ℕ) → n < 256 → n ≢ 255 → n ∷ [] ≡ length_bytes n
short_spelled n lt ne =
    let short : nat_lt n 255 ≡ true = grind (arith, nat_tests) in
    sym (ap (λ (b : Bool). if b then n ∷ [] else long_bytes n) short)

-- a number that no operator has
pub unknown_number : (n : ℕ) (before : List ℕ) → n ≢ 1 → n ≢ 2 → n ≢ 3 → n ≢ 4 → n ≢ 5 → n ≢ 6 → n ≢ 7 → n ≢ 8 → n ≢ 9 → n ≢ 10 → n ≢ 11 → n ≢ 12 → n ≢ 13 → n ≢ 14 → numbered_back n before ≡ None
unknown_number n before a b c d e f g h i j k l o p = rw (no n 1 a, no n 2 b, no n 3 c, no n 4 d, no n 5 e, no n 6 f, no n 7 g, no n 8 h, no n 9 i, no n 10 j, no n 11 k, no n 12 l, no n 13 o, no n 14 p) refl
  where
    no : (n m : ℕ) → n ≢ m → (n == m) ≡ false
    no n m ne = grind (arith, nat_tests)
