-- The tables are held against the division, and each against the one before it, by computing.
use mathlib.Core.Bool.{xor}
use Rattle.std.proofs.Common.{◌≡◌, ℕ, zero, suc, ◌+◌, ◌*◌, ◌/◌, ◌%◌, ◌^◌, ◌<◌, Bool, true, ◌&&◌, List, [], ◌∷◌, ◌++◌, length, replicate, get_or, eqb, ltb, bit_xor, refl, sym, ap, ap₂, ◌∙◌, arith, length-append}
use Rattle.std.proofs.lemmas.Bool.{agree_below, agree_below_at, eqb-true, ltb-true, and_parts}
use Rattle.std.proofs.lemmas.List.{replicate-append-replicate}
use Rattle.uc_logrec.specs.declared.table.TheConstants.{REMAINDERS}
use Rattle.uc_logrec.specs.Bits.{lowest_first, number_of, zeros}
use Rattle.uc_logrec.specs.Division.{xor_bits, polynomial, divisor, divide_step, divide_steps}
use Rattle.uc_logrec.specs.Crc.{register_after}
use Rattle.uc_logrec.proofs.BitLists.{xor_bits_comm, xor_bits-zeros, length-zeros}
use Rattle.uc_logrec.proofs.Dividing.{length-divide_steps}
use Rattle.uc_logrec.proofs.Numbers.{length-lowest_first, lowest_first-number_of, lowest_first-mod, lowest_first-zero}
use Rattle.uc_logrec.proofs.Shifts.{register_after-byte, register_after-append, shifted}

-- the entry of a byte in front of `behind` zero bytes
abbrev pub entry : ℕ → ℕ → ℕ
entry behind byte = get_or (get_or REMAINDERS behind []) byte 0

-- what eight steps leave of a byte's bits in front of 32 zeros
unfoldable left_of : ℕ → List Bool
left_of byte = divide_steps 8 (lowest_first 8 byte ++ zeros 32)

unfoldable is_left : ℕ → Bool
is_left byte = eqb (entry 0 byte) (number_of (left_of byte))

-- the entry of the next table is this one's, moved on by a zero byte
abbrev moved_on : ℕ → ℕ
moved_on x = bit_xor (entry 0 (x % 256)) (x / 256)

abbrev goes_on : ℕ → ℕ → Bool
goes_on behind byte = ltb (entry behind byte) (2 ^ 32) && eqb (entry (suc behind) byte) (moved_on (entry behind byte))

unfoldable goes_on_at_place : ℕ → Bool
goes_on_at_place place = goes_on (place / 256) (place % 256)

unfoldable always : ℕ → Bool
always place = true

all_left : agree_below is_left always 256 ≡ true
unfolding is_left always left_of lowest_first number_of zeros xor_bits polynomial divisor divide_step divide_steps xor
all_left = refl

all_go_on : agree_below goes_on_at_place always 1792 ≡ true
unfolding goes_on_at_place always
all_go_on = refl

length-left_of : (byte : ℕ) → length (left_of byte) ≡ 32
unfolding left_of
length-left_of byte =
    length-divide_steps 8 32 (lowest_first 8 byte ++ zeros 32) (omega arith) (omega (arith, length-append (lowest_first 8 byte) (zeros 32), length-lowest_first 8 byte, length-zeros 32))

is_left_at : (byte : ℕ) → byte < 256 → is_left byte ≡ true
unfolding always
is_left_at byte l = agree_below_at is_left always 256 byte all_left l

place_of : (behind byte : ℕ) → byte < 256 → ((behind * 256 + byte) / 256 ≡ behind) × ((behind * 256 + byte) % 256 ≡ byte)
place_of behind byte l = (omega arith, omega arith)

goes_on_at : (behind byte : ℕ) → behind < 7 → byte < 256 → (entry behind byte < 2 ^ 32) × (entry (suc behind) byte ≡ moved_on (entry behind byte))
unfolding goes_on_at_place always
goes_on_at behind byte l k =
    let place = behind * 256 + byte in
    let at = place_of behind byte k in
    let test : goes_on behind byte ≡ true = sym (ap₂ goes_on at.0 at.1) ∙ agree_below_at goes_on_at_place always 1792 place all_go_on (omega arith) in
    let both = and_parts (ltb (entry behind byte) (2 ^ 32)) (eqb (entry (suc behind) byte) (moved_on (entry behind byte))) test in
    (ltb-true (entry behind byte) (2 ^ 32) both.0, eqb-true (entry (suc behind) byte) (moved_on (entry behind byte)) both.1)

first_entry : (byte : ℕ) → byte < 256 → lowest_first 32 (entry 0 byte) ≡ register_after (zeros 32) (byte ∷ [])
unfolding is_left left_of
first_entry byte l =
    ap (lowest_first 32) (eqb-true (entry 0 byte) (number_of (left_of byte)) (is_left_at byte l))
    ∙ ap (λ (n : ℕ). lowest_first n (number_of (left_of byte))) (sym (length-left_of byte))
    ∙ lowest_first-number_of (left_of byte)
    ∙ ap (divide_steps 8) (sym (xor_bits-zeros 32 (lowest_first 8 byte ++ zeros 32) (omega (arith, length-append (lowest_first 8 byte) (zeros 32), length-zeros 32))))
    ∙ sym (register_after-byte (zeros 32) byte (length-zeros 32))

-- the bits of a register's low byte, where nothing is added
plain_index : (x : ℕ) → lowest_first 8 (x % 256) ≡ xor_bits (lowest_first 8 x) (lowest_first 8 0)
plain_index x =
    lowest_first-mod 8 x
    ∙ sym (xor_bits_comm (lowest_first 8 x) (lowest_first 8 0) ∙ ap (λ (bits : List Bool). xor_bits bits (lowest_first 8 x)) (lowest_first-zero 8) ∙ xor_bits-zeros 8 (lowest_first 8 x) (omega (arith, length-lowest_first 8 x)))

replicate-back : (n : ℕ) → replicate {A = ℕ} (suc n) 0 ≡ replicate n 0 ++ 0 ∷ []
replicate-back n =
    let e : suc n ≡ n + 1 = omega arith in
    ap (λ (i : ℕ). replicate {A = ℕ} i 0) e ∙ sym (replicate-append-replicate n 1 0)

-- each entry is the remainder of its byte and the zero bytes after it
pub entry_at : (behind byte : ℕ) → behind < 8 → byte < 256 → lowest_first 32 (entry behind byte) ≡ register_after (zeros 32) (byte ∷ replicate behind 0)
entry_at zero byte l k = first_entry byte k
entry_at (suc behind) byte l k =
    let x = entry behind byte in
    let front = byte ∷ replicate behind 0 in
    let next = goes_on_at behind byte (omega arith) k in
    ap (lowest_first 32) next.1
    ∙ shifted x 0 (x % 256) (entry 0 (x % 256)) next.0 (plain_index x) (first_entry (x % 256) (omega arith))
    ∙ ap (λ (r : List Bool). register_after r (0 ∷ [])) (entry_at behind byte (omega arith) k)
    ∙ sym (register_after-append (zeros 32) front (0 ∷ []) (length-zeros 32))
    ∙ sym (ap (λ (bytes : List ℕ). register_after (zeros 32) (byte ∷ bytes)) (replicate-back behind))
