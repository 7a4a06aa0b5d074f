-- The register to which bytes lead, and how one byte shifts it.
use Rattle.std.proofs.Common.{◌≡◌, ℕ, ◌+◌, ◌/◌, ◌^◌, ◌<◌, ◌≤◌, Bool, bit_and, bit_xor, List, [], ◌∷◌, ◌++◌, length, sym, ap, ap₂, ◌∙◌, arith, append_assoc, length-append}
use Rattle.std.proofs.lemmas.Nat.{and_mask}
use Rattle.uc_logrec.specs.Bits.{lowest_first, bits_of, zeros}
use Rattle.uc_logrec.specs.Division.{xor_bits, divide_steps, remainder}
use Rattle.uc_logrec.specs.Crc.{register_after}
use Rattle.uc_logrec.proofs.BitLists.{xor_bits-zeros_more, xor_bits_comm, length-xor_bits, xor_bits-zeros, xor_bits-append, length-zeros}
use Rattle.uc_logrec.proofs.Dividing.{length-divide_steps, divide_steps-none, divide_steps-split, divide_steps-add, divide_steps-front}
use Rattle.uc_logrec.proofs.Numbers.{length-lowest_first, bits_of-one, bits_of-append, lowest_first-high, lowest_first-xor, lowest_first-add, lowest_first-mod}

length-dividend : (register : List Bool) (bytes : List ℕ) → length register ≡ 32 → length (xor_bits register (bits_of bytes ++ zeros 32)) ≡ length (bits_of bytes) + 32
length-dividend register bytes e =
    let all = length-append (bits_of bytes) (zeros 32) in
    let end = length-zeros 32 in
    length-xor_bits register (bits_of bytes ++ zeros 32) (omega arith) ∙ omega arith

-- the register, by the number of the division's steps
pub register_after-steps : (register : List Bool) (bytes : List ℕ) → length register ≡ 32 → register_after register bytes ≡ divide_steps (length (bits_of bytes)) (xor_bits register (bits_of bytes ++ zeros 32))
unfolding register_after remainder
register_after-steps register bytes e =
    let n = length-dividend register bytes e in
    ap (λ (i : ℕ). divide_steps i (xor_bits register (bits_of bytes ++ zeros 32))) (omega arith)

pub length-register_after : (register : List Bool) (bytes : List ℕ) → length register ≡ 32 → length (register_after register bytes) ≡ 32
length-register_after register bytes e =
    ap length (register_after-steps register bytes e) ∙ length-divide_steps (length (bits_of bytes)) 32 (xor_bits register (bits_of bytes ++ zeros 32)) (omega arith) (length-dividend register bytes e)

pub register_after-nil : (register : List Bool) → length register ≡ 32 → register_after register [] ≡ register
unfolding bits_of divide_steps
register_after-nil register e =
    register_after-steps register [] e ∙ xor_bits_comm register (zeros 32) ∙ xor_bits-zeros 32 register (omega arith)

-- the register after bytes that follow others is computed from the register after those others
pub register_after-append : (register : List Bool) (front back : List ℕ) → length register ≡ 32 → register_after register (front ++ back) ≡ register_after (register_after register front) back
register_after-append register front back e =
    let f = bits_of front in
    let b = bits_of back in
    let whole = bits_of-append front back in
    let rest_long : 32 ≤ length (b ++ zeros 32) = omega (arith, length-append b (zeros 32), length-zeros 32) in
    register_after-steps register (front ++ back) e
    ∙ ap (λ (bits : List Bool). divide_steps (length bits) (xor_bits register (bits ++ zeros 32))) whole
    ∙ ap₂ (λ (n : ℕ) (bits : List Bool). divide_steps n (xor_bits register bits)) (length-append f b) (append_assoc f b (zeros 32))
    ∙ divide_steps-add (length f) (length b) (xor_bits register (f ++ (b ++ zeros 32)))
    ∙ ap (divide_steps (length b)) (divide_steps-front register f (b ++ zeros 32) e rest_long)
    ∙ sym (ap (λ (r : List Bool). divide_steps (length b) (xor_bits r (b ++ zeros 32))) (register_after-steps register front e))
    ∙ sym (register_after-steps (register_after register front) back (length-register_after register front e))

-- one byte is eight steps
pub register_after-byte : (register : List Bool) (byte : ℕ) → length register ≡ 32 → register_after register (byte ∷ []) ≡ divide_steps 8 (xor_bits register (lowest_first 8 byte ++ zeros 32))
register_after-byte register byte e =
    let one = bits_of-one byte in
    register_after-steps register (byte ∷ []) e
    ∙ ap (λ (bits : List Bool). divide_steps (length bits) (xor_bits register (bits ++ zeros 32))) one
    ∙ ap (λ (n : ℕ). divide_steps n (xor_bits register (lowest_first 8 byte ++ zeros 32))) (length-lowest_first 8 byte)

-- bytes from the register of zeros
pub alone-steps : (n : ℕ) (bytes : List ℕ) → length (bits_of bytes) ≡ n → register_after (zeros 32) bytes ≡ divide_steps n (bits_of bytes ++ zeros 32)
alone-steps n bytes e =
    register_after-steps (zeros 32) bytes (length-zeros 32)
    ∙ ap₂ divide_steps e (xor_bits-zeros 32 (bits_of bytes ++ zeros 32) (omega (arith, length-append (bits_of bytes) (zeros 32), length-zeros 32)))

-- ---- one byte by the table

-- a byte shifts the register by its bits, and what remains of those that drop out is added
pub shifted : (x byte index entry : ℕ) → x < 2 ^ 32 → lowest_first 8 index ≡ xor_bits (lowest_first 8 x) (lowest_first 8 byte)
    → lowest_first 32 entry ≡ register_after (zeros 32) (index ∷ [])
    → lowest_first 32 (bit_xor entry (x / 256)) ≡ register_after (lowest_first 32 x) (byte ∷ [])
shifted x byte index entry l i t =
    let low = lowest_first 8 x in
    let high = lowest_first 24 (x / 256) in
    let b = lowest_first 8 byte in
    let moved = lowest_first 32 (x / 256) in
    let looked = lowest_first 8 index in
    let rest : xor_bits high (zeros 32) ≡ moved =
    ap (λ (n : ℕ). xor_bits high (zeros (n + 8))) (sym (length-lowest_first 24 (x / 256))) ∙ xor_bits-zeros_more high 8 ∙ sym (lowest_first-high x l) in
    let parts : xor_bits (lowest_first 32 x) (b ++ zeros 32) ≡ looked ++ moved =
    ap (λ (bits : List Bool). xor_bits bits (b ++ zeros 32)) (lowest_first-add 8 24 x)
    ∙ xor_bits-append low high b (zeros 32) (length-lowest_first 8 x ∙ sym (length-lowest_first 8 byte))
    ∙ ap₂ (λ (p q : List Bool). p ++ q) (sym i) rest in
    let known : divide_steps 8 (looked ++ zeros 32) ≡ lowest_first 32 entry = sym (t ∙ alone-steps 8 (index ∷ []) (ap length (bits_of-one index) ∙ length-lowest_first 8 index) ∙ ap (λ (bits : List Bool). divide_steps 8 (bits ++ zeros 32)) (bits_of-one index)) in
    sym (register_after-byte (lowest_first 32 x) byte (length-lowest_first 32 x)
    ∙ ap (divide_steps 8) parts
    ∙ divide_steps-split 8 0 looked moved (length-lowest_first 8 index) (length-lowest_first 32 (x / 256))
    ∙ ap₂ xor_bits known (divide_steps-none moved)
    ∙ sym (lowest_first-xor 32 entry (x / 256)))

-- the byte that is looked up
pub index_bits : (x byte : ℕ) → lowest_first 8 (bit_xor (bit_and x 255) byte) ≡ xor_bits (lowest_first 8 x) (lowest_first 8 byte)
index_bits x byte =
    lowest_first-xor 8 (bit_and x 255) byte ∙ ap (λ (bits : List Bool). xor_bits bits (lowest_first 8 byte)) (ap (lowest_first 8) (and_mask x 8) ∙ lowest_first-mod 8 x)
