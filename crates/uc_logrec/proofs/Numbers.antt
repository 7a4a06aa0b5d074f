-- The bits of numbers and of bytes.
use mathlib.Core.Bool.{xor}
use Rattle.std.proofs.Common.{◌≡◌, ℕ, zero, suc, ◌+◌, ◌*◌, ◌/◌, ◌%◌, ◌^◌, ◌<◌, Bool, true, false, cond, not, eqb, bit_xor, List, [], ◌∷◌, ◌++◌, length, replicate, refl, sym, ap, ap₂, ◌∙◌, arith, append-nil, length-append, w64, shr-shr, pow-suc}
use Rattle.std.proofs.Math.Nat.{div-div-eq-div-mul}
use Rattle.std.proofs.lemmas.Nat.{mod-pow-add}
use Rattle.std.specs.Int.Bits.{xor_mod, xor_shr}
use Rattle.std.specs.Int.{to_le_bytes, byte_at, bytes_low_first}
use Rattle.std.proofs.lemmas.Grind.{flat_map-append}
use Rattle.uc_logrec.specs.Bits.{lowest_first, number_of, bits_of, inverted, zeros}
use Rattle.uc_logrec.specs.Division.{xor_bits}
use Rattle.uc_logrec.proofs.BitLists.{zeros-add}

pub length-lowest_first : (count n : ℕ) → length (lowest_first count n) ≡ count
unfolding lowest_first
length-lowest_first zero n = refl
length-lowest_first (suc count) n = ap suc (length-lowest_first count (n / 2))

odd-xor : (p q : ℕ) → p < 2 → q < 2 → eqb (bit_xor p q) 1 ≡ xor (eqb p 1) (eqb q 1)
unfolding xor
odd-xor zero zero l k = refl
odd-xor zero (suc zero) l k = refl
odd-xor (suc zero) zero l k = refl
odd-xor (suc zero) (suc zero) l k = refl
odd-xor (suc (suc p)) q l k = absurd (omega arith)
odd-xor zero (suc (suc q)) l k = absurd (omega arith)
odd-xor (suc zero) (suc (suc q)) l k = absurd (omega arith)

-- the bits of an exclusive or are the sum of the bits
pub lowest_first-xor : (count a b : ℕ) → lowest_first count (bit_xor a b) ≡ xor_bits (lowest_first count a) (lowest_first count b)
unfolding lowest_first xor_bits
lowest_first-xor zero a b = refl
lowest_first-xor (suc count) a b =
    ap₂ (λ (bit : Bool) (bits : List Bool). bit ∷ bits)
    (ap (λ (n : ℕ). eqb n 1) (xor_mod a b 1) ∙ odd-xor (a % 2) (b % 2) (omega arith) (omega arith))
    (ap (lowest_first count) (xor_shr a b 1) ∙ lowest_first-xor count (a / 2) (b / 2))

-- the low bits and those above them
pub lowest_first-add : (m n a : ℕ) → lowest_first (m + n) a ≡ lowest_first m a ++ lowest_first n (a / 2 ^ m)
unfolding lowest_first
lowest_first-add zero n a = ap₂ lowest_first (omega arith) (omega arith)
lowest_first-add (suc m) n a =
    let k : suc m + n ≡ suc (m + n) = omega arith in
    let q : a / 2 / 2 ^ m ≡ a / 2 ^ (suc m) = shr-shr a 1 m ∙ ap (λ (i : ℕ). a / 2 ^ i) (omega arith) in
    ap (λ (i : ℕ). lowest_first i a) k ∙ ap (λ (bits : List Bool). eqb (a % 2) 1 ∷ bits) (lowest_first-add m n (a / 2) ∙ ap (λ (i : ℕ). lowest_first m (a / 2) ++ lowest_first n i) q)

pub lowest_first-zero : (count : ℕ) → lowest_first count 0 ≡ zeros count
unfolding lowest_first zeros
lowest_first-zero zero = refl
lowest_first-zero (suc count) = ap (λ (bits : List Bool). false ∷ bits) (lowest_first-zero count)

odd_complement : (p q : ℕ) → p + q ≡ 1 → eqb p 1 ≡ not (eqb q 1)
odd_complement zero zero e = absurd (omega arith)
odd_complement zero (suc zero) e = refl
odd_complement (suc zero) zero e = refl
odd_complement zero (suc (suc q)) e = absurd (omega arith)
odd_complement (suc zero) (suc q) e = absurd (omega arith)
odd_complement (suc (suc p)) q e = absurd (omega arith)

-- two numbers that add up to all ones have inverse bits
pub lowest_first-complement : (count a b : ℕ) → a + b + 1 ≡ 2 ^ count → lowest_first count a ≡ inverted (lowest_first count b)
unfolding lowest_first inverted
lowest_first-complement zero a b e = refl
lowest_first-complement (suc count) a b e =
    let p : 2 ^ (suc count) ≡ 2 * 2 ^ count = omega (arith, pow-suc 2 count) in
    ap₂ (λ (bit : Bool) (bits : List Bool). bit ∷ bits)
    (odd_complement (a % 2) (b % 2) (omega arith))
    (lowest_first-complement count (a / 2) (b / 2) (omega arith))

odd_value : (p : ℕ) → p < 2 → cond (eqb p 1) 1 0 ≡ p
odd_value zero l = refl
odd_value (suc zero) l = refl
odd_value (suc (suc p)) l = absurd (omega arith)

-- a number below 2^count is the number that its lowest `count` bits encode
pub number_of-lowest_first : (count a : ℕ) → a < 2 ^ count → number_of (lowest_first count a) ≡ a
unfolding lowest_first number_of
number_of-lowest_first zero a l = omega arith
number_of-lowest_first (suc count) a l =
    let p : 2 ^ (suc count) ≡ 2 * 2 ^ count = omega (arith, pow-suc 2 count) in
    let half = number_of-lowest_first count (a / 2) (omega arith) in
    ap₂ (λ (x y : ℕ). x + 2 * y) (odd_value (a % 2) (omega arith)) half ∙ omega arith

lowest_of : (bit : Bool) (n : ℕ) → (eqb ((cond bit 1 0 + 2 * n) % 2) 1 ≡ bit) × ((cond bit 1 0 + 2 * n) / 2 ≡ n)
lowest_of true n =
    let e : (1 + 2 * n) % 2 ≡ 1 = omega arith in (ap (λ (i : ℕ). eqb i 1) e, omega arith)
lowest_of false n =
    let e : (0 + 2 * n) % 2 ≡ 0 = omega arith in (ap (λ (i : ℕ). eqb i 1) e, omega arith)

-- and bits are those of the number that they write
pub lowest_first-number_of : (bits : List Bool) → lowest_first (length bits) (number_of bits) ≡ bits
unfolding lowest_first number_of
lowest_first-number_of [] = refl
lowest_first-number_of (bit ∷ bits) =
    let p = lowest_of bit (number_of bits) in
    ap₂ (λ (b : Bool) (bs : List Bool). b ∷ bs) p.0 (ap (lowest_first (length bits)) p.1 ∙ lowest_first-number_of bits)

not-not : (bit : Bool) → not (not bit) ≡ bit
not-not true = refl
not-not false = refl

pub inverted-inverted : (bits : List Bool) → inverted (inverted bits) ≡ bits
unfolding inverted
inverted-inverted [] = refl
inverted-inverted (bit ∷ bits) = ap₂ (λ (b : Bool) (bs : List Bool). b ∷ bs) (not-not bit) (inverted-inverted bits)

pub length-inverted : (bits : List Bool) → length (inverted bits) ≡ length bits
unfolding inverted
length-inverted [] = refl
length-inverted (bit ∷ bits) = ap suc (length-inverted bits)

-- the low bits take nothing from what stands above them
pub lowest_first-mod : (count a : ℕ) → lowest_first count (a % 2 ^ count) ≡ lowest_first count a
unfolding lowest_first
lowest_first-mod zero a = refl
lowest_first-mod (suc count) a =
    let e : suc count ≡ count + 1 = omega arith in
    let whole : a % 2 ^ (suc count) ≡ (a / 2 % 2 ^ count) * 2 + a % 2 = ap (λ (i : ℕ). a % 2 ^ i) e ∙ mod-pow-add a count 1 in
    let low : a % 2 ^ (suc count) % 2 ≡ a % 2 = omega arith in
    let high : a % 2 ^ (suc count) / 2 ≡ a / 2 % 2 ^ count = omega arith in
    ap₂ (λ (bit : Bool) (bits : List Bool). bit ∷ bits) (ap (λ (n : ℕ). eqb n 1) low) (ap (lowest_first count) high ∙ lowest_first-mod count (a / 2))

-- ---- bytes

pub bits_of-cons : (byte : ℕ) (bytes : List ℕ) → bits_of (byte ∷ bytes) ≡ lowest_first 8 byte ++ bits_of bytes
unfolding bits_of
bits_of-cons byte bytes = refl

pub length-bits_of : (bytes : List ℕ) → length (bits_of bytes) ≡ 8 * length bytes
unfolding bits_of
length-bits_of [] = refl
length-bits_of (byte ∷ bytes) = length-append (lowest_first 8 byte) (bits_of bytes) ∙ omega (arith, length-lowest_first 8 byte, length-bits_of bytes)

pub bits_of-one : (byte : ℕ) → bits_of (byte ∷ []) ≡ lowest_first 8 byte
unfolding bits_of
bits_of-one byte = append-nil (lowest_first 8 byte)

pub bits_of-append : (front back : List ℕ) → bits_of (front ++ back) ≡ bits_of front ++ bits_of back
unfolding bits_of
bits_of-append front back = flat_map-append (lowest_first 8) front back

pub bits_of-zero_bytes : (n : ℕ) → bits_of (replicate n 0) ≡ zeros (8 * n)
unfolding bits_of zeros
bits_of-zero_bytes zero = refl
bits_of-zero_bytes (suc n) =
    bits_of-cons 0 (replicate n 0) ∙ ap₂ (λ (ps qs : List Bool). ps ++ qs) (lowest_first-zero 8) (bits_of-zero_bytes n) ∙ sym (zeros-add 8 (8 * n)) ∙ ap zeros (omega arith)

byte_at-value : (i x : ℕ) → byte_at i x ≡ x / 256 ^ i % 256
byte_at-value zero x = omega arith
byte_at-value (suc i) x = refl

-- the bytes of a number from one on hold its bits from there on
bits_of-bytes_low_first : (i count x : ℕ) → bits_of (bytes_low_first i count x) ≡ lowest_first (8 * count) (x / 256 ^ i)
unfolding bits_of lowest_first
bits_of-bytes_low_first i zero x = refl
bits_of-bytes_low_first i (suc count) x =
    let next : x / 256 ^ suc i ≡ x / 256 ^ i / 2 ^ 8 = sym (div-div-eq-div-mul x (256 ^ i) 256 ∙ ap (λ (n : ℕ). x / n) (sym (pow-suc 256 i))) in
    let more : 8 * suc count ≡ 8 + 8 * count = omega arith in
    bits_of-cons (byte_at i x) (bytes_low_first (suc i) count x)
    ∙ ap₂ (λ (ps qs : List Bool). ps ++ qs)
    (ap (lowest_first 8) (byte_at-value i x) ∙ lowest_first-mod 8 (x / 256 ^ i))
    (bits_of-bytes_low_first (suc i) count x ∙ ap (lowest_first (8 * count)) next)
    ∙ sym (ap (λ (n : ℕ). lowest_first n (x / 256 ^ i)) more ∙ lowest_first-add 8 (8 * count) (x / 256 ^ i))

pub bits_of-to_le_bytes : (x : ℕ) → bits_of (to_le_bytes w64 x) ≡ lowest_first 64 x
bits_of-to_le_bytes x =
    let whole : x / 256 ^ 0 ≡ x = omega arith in
    bits_of-bytes_low_first 0 8 x ∙ ap (lowest_first 64) whole

-- a register that is shifted by a byte ends with zeros
pub lowest_first-high : (x : ℕ) → x < 2 ^ 32 → lowest_first 32 (x / 256) ≡ lowest_first 24 (x / 256) ++ zeros 8
lowest_first-high x l =
    let none : x / 256 / 2 ^ 24 ≡ 0 = omega arith in
    lowest_first-add 24 8 (x / 256) ∙ ap (λ (bits : List Bool). lowest_first 24 (x / 256) ++ bits) (ap (lowest_first 8) none ∙ lowest_first-zero 8)
