-- Eight bytes at a time.
use Rattle.std.proofs.Common.{◌≡◌, ℕ, zero, suc, ◌+◌, ◌*◌, ◌/◌, ◌^◌, ◌<◌, ◌≤◌, Bool, List, [], ◌∷◌, ◌++◌, length, take, drop, replicate, get_or, bit_xor, refl, sym, ap, ap₂, ◌∙◌, arith, append_assoc, append-nil, length-append, w64}
use Rattle.std.specs.Int.{to_le_bytes}
use Rattle.std.specs.List.{concat}
use Rattle.std.specs.Simd.{first_chunks}
use Rattle.std.proofs.lemmas.List.{drop-drop, take-append-drop, length-drop, length-replicate}
use Rattle.std.proofs.lemmas.List.Folds.{concat-append}
use Rattle.uc_logrec.specs.Bits.{lowest_first, bits_of, zeros}
use Rattle.uc_logrec.specs.Division.{xor_bits, divide_steps}
use Rattle.uc_logrec.specs.Crc.{register_after}
use Rattle.uc_logrec.proofs.BitLists.{xor_bits-nil_left, xor_bits_comm, xor_bits-append, xor_bits-zeros, length-zeros, zeros-add}
use Rattle.uc_logrec.proofs.Dividing.{divide_steps-split}
use Rattle.uc_logrec.proofs.Numbers.{length-lowest_first, lowest_first-xor, lowest_first-add, lowest_first-zero, bits_of-cons, length-bits_of, bits_of-zero_bytes, bits_of-to_le_bytes}
use Rattle.uc_logrec.proofs.Shifts.{register_after-steps, register_after-append, alone-steps}

-- ---- a register and a word after it

-- the register's bits are added to the first 32 of the word's number
added_bits : (x n : ℕ) → x < 2 ^ 32 → xor_bits (lowest_first 32 x) (lowest_first 64 n ++ zeros 32) ≡ lowest_first 64 (bit_xor n x) ++ zeros 32
added_bits x n l =
    let register = lowest_first 32 x in
    let low = lowest_first 32 n in
    let high = lowest_first 32 (n / 2 ^ 32) in
    let none : x / 2 ^ 32 ≡ 0 = omega arith in
    let same : length register ≡ length low = length-lowest_first 32 x ∙ sym (length-lowest_first 32 n) in
    let sum : lowest_first 64 (bit_xor n x) ≡ xor_bits low register ++ high =
    lowest_first-xor 64 n x
    ∙ ap₂ xor_bits (lowest_first-add 32 32 n) (lowest_first-add 32 32 x ∙ ap (λ (bits : List Bool). register ++ bits) (ap (lowest_first 32) none ∙ lowest_first-zero 32))
    ∙ xor_bits-append low high register (zeros 32) (sym same)
    ∙ ap (λ (bits : List Bool). xor_bits low register ++ bits) (xor_bits_comm high (zeros 32) ∙ xor_bits-zeros 32 high (omega (arith, length-lowest_first 32 (n / 2 ^ 32)))) in
    ap (λ (bits : List Bool). xor_bits register (bits ++ zeros 32)) (lowest_first-add 32 32 n)
    ∙ ap₂ xor_bits (sym (append-nil register)) (append_assoc low high (zeros 32))
    ∙ xor_bits-append register [] low (high ++ zeros 32) same
    ∙ ap₂ (λ (ps qs : List Bool). ps ++ qs) (xor_bits_comm register low) (xor_bits-nil_left (high ++ zeros 32))
    ∙ sym (append_assoc (xor_bits low register) high (zeros 32))
    ∙ ap (λ (bits : List Bool). bits ++ zeros 32) (sym sum)

-- after a register, a word gives the result that the sum of the register and its number gives alone
pub behind_register : (x n : ℕ) (word bytes : List ℕ) → x < 2 ^ 32 → to_le_bytes w64 n ≡ word → bytes ≡ to_le_bytes w64 (bit_xor n x) → register_after (lowest_first 32 x) word ≡ register_after (zeros 32) bytes
behind_register x n word bytes l is_word is_sum =
    let over_word : bits_of word ≡ lowest_first 64 n = ap bits_of (sym is_word) ∙ bits_of-to_le_bytes n in
    let over_bytes : bits_of bytes ≡ lowest_first 64 (bit_xor n x) = ap bits_of is_sum ∙ bits_of-to_le_bytes (bit_xor n x) in
    register_after-steps (lowest_first 32 x) word (length-lowest_first 32 x)
    ∙ ap (λ (bits : List Bool). divide_steps (length bits) (xor_bits (lowest_first 32 x) (bits ++ zeros 32))) over_word
    ∙ ap₂ divide_steps (length-lowest_first 64 n) (added_bits x n l ∙ ap (λ (bits : List Bool). bits ++ zeros 32) (sym over_bytes))
    ∙ sym (alone-steps 64 bytes (ap length over_bytes ∙ length-lowest_first 64 (bit_xor n x)))

-- ---- the sum over the bytes

-- the remainder of bytes is the sum of the remainder of the first, with zero bytes after it, and of that of the others alone
alone-cons : (byte : ℕ) (bytes : List ℕ) → register_after (zeros 32) (byte ∷ bytes) ≡ xor_bits (register_after (zeros 32) (byte ∷ replicate (length bytes) 0)) (register_after (zeros 32) bytes)
alone-cons byte bytes =
    let n = length bytes in
    let b = lowest_first 8 byte in
    let rest = bits_of bytes ++ zeros 32 in
    let all : length (bits_of (byte ∷ bytes)) ≡ 8 + 8 * n = length-bits_of (byte ∷ bytes) ∙ omega arith in
    let padded : length (bits_of (byte ∷ replicate n 0)) ≡ 8 + 8 * n = length-bits_of (byte ∷ replicate n 0) ∙ omega (arith, length-replicate {A = ℕ} n 0) in
    let padding : bits_of (byte ∷ replicate n 0) ++ zeros 32 ≡ b ++ zeros (8 * n + 32) =
    ap (λ (bits : List Bool). bits ++ zeros 32) (bits_of-cons byte (replicate n 0) ∙ ap (λ (bits : List Bool). b ++ bits) (bits_of-zero_bytes n))
    ∙ append_assoc b (zeros (8 * n)) (zeros 32) ∙ ap (λ (bits : List Bool). b ++ bits) (sym (zeros-add (8 * n) 32)) in
    alone-steps (8 + 8 * n) (byte ∷ bytes) all
    ∙ ap (divide_steps (8 + 8 * n)) (ap (λ (bits : List Bool). bits ++ zeros 32) (bits_of-cons byte bytes) ∙ append_assoc b (bits_of bytes) (zeros 32))
    ∙ divide_steps-split 8 (8 * n) b rest (length-lowest_first 8 byte) (length-append (bits_of bytes) (zeros 32) ∙ omega (arith, length-bits_of bytes, length-zeros 32))
    ∙ ap₂ xor_bits (sym (alone-steps (8 + 8 * n) (byte ∷ replicate n 0) padded ∙ ap (divide_steps (8 + 8 * n)) padding)) (sym (alone-steps (8 * n) bytes (length-bits_of bytes)))

-- the entry is that of a byte in front of `behind` zero bytes
abbrev pub IsEntry : ℕ → ℕ → ℕ → Type 0
IsEntry behind byte entry = lowest_first 32 entry ≡ register_after (zeros 32) (byte ∷ replicate behind 0)

-- the entry of one more byte is added in front
more : (sum entry byte : ℕ) (bytes : List ℕ) → lowest_first 32 sum ≡ register_after (zeros 32) bytes → IsEntry (length bytes) byte entry → lowest_first 32 (bit_xor sum entry) ≡ register_after (zeros 32) (byte ∷ bytes)
more sum entry byte bytes so_far e =
    lowest_first-xor 32 sum entry
    ∙ ap₂ xor_bits so_far e
    ∙ xor_bits_comm (register_after (zeros 32) bytes) (register_after (zeros 32) (byte ∷ replicate (length bytes) 0))
    ∙ sym (alone-cons byte bytes)

-- ---- one word

abbrev eight : List ℕ → List ℕ
eight word = get_or word 0 0 ∷ get_or word 1 0 ∷ get_or word 2 0 ∷ get_or word 3 0 ∷ get_or word 4 0 ∷ get_or word 5 0 ∷ get_or word 6 0 ∷ get_or word 7 0 ∷ []

is_eight : (word : List ℕ) → length word ≡ 8 → word ≡ eight word
is_eight (a ∷ b ∷ c ∷ d ∷ e ∷ f ∷ g ∷ h ∷ []) l = refl
is_eight _ l = absurd (omega arith)

-- a word alone is shifted in by one entry for each of its bytes, from the last to the first
pub shifted_word : (word : List ℕ) → length word ≡ 8 → (a b c d e f g h : ℕ)
    → IsEntry 0 (get_or word 7 0) a → IsEntry 1 (get_or word 6 0) b → IsEntry 2 (get_or word 5 0) c → IsEntry 3 (get_or word 4 0) d
    → IsEntry 4 (get_or word 3 0) e → IsEntry 5 (get_or word 2 0) f → IsEntry 6 (get_or word 1 0) g → IsEntry 7 (get_or word 0 0) h
    → lowest_first 32 (bit_xor (bit_xor (bit_xor (bit_xor (bit_xor (bit_xor (bit_xor a b) c) d) e) f) g) h) ≡ register_after (zeros 32) word
shifted_word word long a b c d e f g h at0 at1 at2 at3 at4 at5 at6 at7 =
    let from7 = get_or word 7 0 ∷ [] in
    let from6 = get_or word 6 0 ∷ from7 in
    let from5 = get_or word 5 0 ∷ from6 in
    let from4 = get_or word 4 0 ∷ from5 in
    let from3 = get_or word 3 0 ∷ from4 in
    let from2 = get_or word 2 0 ∷ from3 in
    let from1 = get_or word 1 0 ∷ from2 in
    let s1 = more a b (get_or word 6 0) from7 at0 at1 in
    let s2 = more (bit_xor a b) c (get_or word 5 0) from6 s1 at2 in
    let s3 = more (bit_xor (bit_xor a b) c) d (get_or word 4 0) from5 s2 at3 in
    let s4 = more (bit_xor (bit_xor (bit_xor a b) c) d) e (get_or word 3 0) from4 s3 at4 in
    let s5 = more (bit_xor (bit_xor (bit_xor (bit_xor a b) c) d) e) f (get_or word 2 0) from3 s4 at5 in
    let s6 = more (bit_xor (bit_xor (bit_xor (bit_xor (bit_xor a b) c) d) e) f) g (get_or word 1 0) from2 s5 at6 in
    more (bit_xor (bit_xor (bit_xor (bit_xor (bit_xor (bit_xor a b) c) d) e) f) g) h (get_or word 0 0) from1 s6 at7
    ∙ ap (register_after (zeros 32)) (sym (is_eight word long))

-- ---- the words of a slice

-- the words, and then what is left of the slice, are the slice
pub concat-first_chunks : (k : ℕ) (bytes : List ℕ) → k * 8 ≤ length bytes → concat (first_chunks 8 k bytes) ++ drop (k * 8) bytes ≡ bytes
concat-first_chunks zero bytes l = refl
concat-first_chunks (suc k) bytes l =
    let rest = drop 8 bytes in
    let n : suc k * 8 ≡ 8 + k * 8 = omega arith in
    append_assoc (take 8 bytes) (concat (first_chunks 8 k rest)) (drop (suc k * 8) bytes)
    ∙ ap (λ (bs : List ℕ). take 8 bytes ++ (concat (first_chunks 8 k rest) ++ bs)) (ap (λ (i : ℕ). drop i bytes) n ∙ sym (drop-drop (k * 8) 8 bytes))
    ∙ ap (λ (bs : List ℕ). take 8 bytes ++ bs) (concat-first_chunks k rest (omega (arith, length-drop 8 bytes)))
    ∙ take-append-drop 8 bytes

-- one word more
pub words_more : (register : List Bool) (front : List (List ℕ)) (word : List ℕ) (x y : ℕ) → length register ≡ 32 → lowest_first 32 x ≡ register_after register (concat front) → lowest_first 32 y ≡ register_after (lowest_first 32 x) word → lowest_first 32 y ≡ register_after register (concat (front ++ word ∷ []))
words_more register front word x y l e s =
    s ∙ ap (λ (r : List Bool). register_after r word) e
    ∙ sym (ap (register_after register) (concat-append front (word ∷ []) ∙ ap (λ (bs : List ℕ). concat front ++ bs) (append-nil word)) ∙ register_after-append register (concat front) word l)

-- and one byte more
pub bytes_more : (register : List Bool) (front : List ℕ) (byte x y : ℕ) → length register ≡ 32 → lowest_first 32 x ≡ register_after register front → lowest_first 32 y ≡ register_after (lowest_first 32 x) (byte ∷ []) → lowest_first 32 y ≡ register_after register (front ++ byte ∷ [])
bytes_more register front byte x y l e s =
    s ∙ ap (λ (r : List Bool). register_after r (byte ∷ [])) e ∙ sym (register_after-append register front (byte ∷ []) l)

-- the register after the words, and then after what is left
pub chunked : (bytes rest : List ℕ) (words : List (List ℕ)) (start between end : ℕ)
    → words ≡ first_chunks 8 (length bytes / 8) bytes → rest ≡ drop (length bytes / 8 * 8) bytes
    → lowest_first 32 between ≡ register_after (lowest_first 32 start) (concat words) → lowest_first 32 end ≡ register_after (lowest_first 32 between) rest
    → lowest_first 32 end ≡ register_after (lowest_first 32 start) bytes
chunked bytes rest words start between end is_front is_back over_words over_rest =
    let register = lowest_first 32 start in
    let whole : concat words ++ rest ≡ bytes = ap₂ (λ (ws : List (List ℕ)) (bs : List ℕ). concat ws ++ bs) is_front is_back ∙ concat-first_chunks (length bytes / 8) bytes (omega arith) in
    over_rest ∙ ap (λ (r : List Bool). register_after r rest) over_words
    ∙ sym (register_after-append register (concat words) rest (length-lowest_first 32 start))
    ∙ ap (register_after register) whole
