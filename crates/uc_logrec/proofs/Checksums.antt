-- A checksum in pieces is the checksum of the whole.
use mathlib.Core.Bool.{xor}
use Rattle.std.proofs.Common.{◌≡◌, ℕ, zero, suc, ◌-◌, ◌^◌, ◌<◌, ◌≤◌, Bool, true, false, List, [], ◌∷◌, ◌++◌, length, take, drop, refl, sym, ap, ◌∙◌, arith, length-append}
use Rattle.uc_logrec.specs.Bits.{lowest_first, number_of, bits_of, inverted, zeros}
use Rattle.uc_logrec.specs.Division.{xor_bits, remainder}
use Rattle.uc_logrec.specs.Crc.{dividend_of, crc_of, extended, register_after}
use Rattle.uc_logrec.proofs.BitLists.{length-zeros}
use Rattle.uc_logrec.proofs.Numbers.{length-lowest_first, lowest_first-zero, lowest_first-complement, number_of-lowest_first, lowest_first-number_of, inverted-inverted, length-inverted}
use Rattle.uc_logrec.proofs.Shifts.{length-register_after, register_after-append}

-- to invert the front is to add a register of ones to it
inverted_front : (n : ℕ) (bits : List Bool) → n ≤ length bits → inverted (take n bits) ++ drop n bits ≡ xor_bits (inverted (zeros n)) bits
unfolding inverted zeros xor_bits xor
inverted_front zero bits l = refl
inverted_front (suc n) [] l = absurd (omega arith)
inverted_front (suc n) (true ∷ bits) l = ap (λ (bs : List Bool). false ∷ bs) (inverted_front n bits (omega arith))
inverted_front (suc n) (false ∷ bits) l = ap (λ (bs : List Bool). true ∷ bs) (inverted_front n bits (omega arith))

-- the register that a checksum stands for
abbrev pub register_of : ℕ → List Bool
register_of crc = inverted (lowest_first 32 crc)

length-register_of : (crc : ℕ) → length (register_of crc) ≡ 32
length-register_of crc = length-inverted (lowest_first 32 crc) ∙ length-lowest_first 32 crc

-- an extended checksum, by the register that the first one stands for
pub extended-register_of : (crc : ℕ) (bytes : List ℕ) → extended crc bytes ≡ number_of (inverted (register_after (register_of crc) bytes))
unfolding extended
extended-register_of crc bytes = refl

-- a checksum is the checksum 0, extended
pub crc_of-extended : (bytes : List ℕ) → crc_of bytes ≡ extended 0 bytes
unfolding crc_of dividend_of extended register_after
crc_of-extended bytes =
    let bits = bits_of bytes ++ zeros 32 in
    ap (λ (all : List Bool). number_of (inverted (remainder all)))
    (inverted_front 32 bits (omega (arith, length-append (bits_of bytes) (zeros 32), length-zeros 32))
    ∙ ap (λ (r : List Bool). xor_bits (inverted r) bits) (sym (lowest_first-zero 32)))

-- to extend the checksum of a front is to take that of the whole
pub extended-append : (crc : ℕ) (front bytes : List ℕ) → crc ≡ crc_of front → extended crc bytes ≡ crc_of (front ++ bytes)
extended-append crc front bytes e =
    let r = register_after (register_of 0) front in
    let n : length (inverted r) ≡ 32 = length-inverted r ∙ length-register_after (register_of 0) front (length-register_of 0) in
    let value : crc ≡ number_of (inverted r) = e ∙ crc_of-extended front ∙ extended-register_of 0 front in
    let same : register_of crc ≡ r =
    ap register_of value
    ∙ ap (λ (i : ℕ). inverted (lowest_first i (number_of (inverted r)))) (sym n)
    ∙ ap inverted (lowest_first-number_of (inverted r)) ∙ inverted-inverted r in
    extended-register_of crc bytes
    ∙ ap (λ (s : List Bool). number_of (inverted (register_after s bytes))) same
    ∙ ap (λ (s : List Bool). number_of (inverted s)) (sym (register_after-append (register_of 0) front bytes (length-register_of 0)))
    ∙ sym (extended-register_of 0 (front ++ bytes))
    ∙ sym (crc_of-extended (front ++ bytes))

-- at the start the register is the checksum's complement, and at the end the checksum is the register's
pub extended_by : (crc x : ℕ) (bytes : List ℕ) → crc < 2 ^ 32 → x < 2 ^ 32 → lowest_first 32 x ≡ register_after (lowest_first 32 (2 ^ 32 - 1 - crc)) bytes → 2 ^ 32 - 1 - x ≡ extended crc bytes
extended_by crc x bytes l k e =
    sym (number_of-lowest_first 32 (2 ^ 32 - 1 - x) (omega arith))
    ∙ ap number_of (lowest_first-complement 32 (2 ^ 32 - 1 - x) x (omega arith) ∙ ap inverted (e ∙ ap (λ (r : List Bool). register_after r bytes) (lowest_first-complement 32 (2 ^ 32 - 1 - crc) crc (omega arith))))
    ∙ sym (extended-register_of crc bytes)
