-- Steps of long division.
use Rattle.std.proofs.Common.{◌≡◌, ℕ, zero, suc, ◌+◌, ◌<◌, ◌≤◌, Bool, true, false, cond, List, [], ◌∷◌, ◌++◌, length, refl, sym, ap, ap₂, ◌∙◌, arith, length-append, zero-add, suc-add}
use mathlib.Core.Bool.{xor}
use Rattle.uc_logrec.specs.Bits.{lowest_first, zeros}
use Rattle.uc_logrec.specs.Division.{xor_bits, polynomial, divisor, divide_step, divide_steps}
use Rattle.uc_logrec.proofs.BitLists.{xor_bits_assoc, xor_bits_left_comm, xor_bits_twice, length-xor_bits, parts_sum, length-zeros}

pub length-polynomial : length polynomial ≡ 32
unfolding polynomial lowest_first
length-polynomial = refl

-- the bits that a leading bit adds to the bits after it
abbrev pub carried : Bool → List Bool
carried bit = cond bit polynomial []

-- one step, by the leading bit
pub divide_step-cons : (bit : Bool) (bits : List Bool) → divide_step (bit ∷ bits) ≡ xor_bits (carried bit) bits
unfolding divide_step divisor xor_bits
divide_step-cons true bits = refl
divide_step-cons false bits = refl

-- what a sum's leading bit carries is the sum of what the two carry
carried-xor : (x y : Bool) (xs ys : List Bool) → 32 ≤ length ys → xor_bits (carried (xor x y)) (xor_bits xs ys) ≡ xor_bits (xor_bits (carried x) xs) (xor_bits (carried y) ys)
unfolding xor xor_bits
carried-xor true true xs ys le = sym (xor_bits_assoc polynomial xs (xor_bits polynomial ys) ∙ xor_bits_left_comm polynomial xs (xor_bits polynomial ys) ∙ ap (xor_bits xs) (xor_bits_twice polynomial ys (omega (arith, length-polynomial))))
carried-xor true false xs ys le = sym (xor_bits_assoc polynomial xs ys)
carried-xor false true xs ys le = xor_bits_left_comm polynomial xs ys
carried-xor false false xs ys le = refl

-- the step of a sum is the sum of the steps
divide_step-xor_bits : (xs ys : List Bool) → 32 < length xs → 32 < length ys → divide_step (xor_bits xs ys) ≡ xor_bits (divide_step xs) (divide_step ys)
unfolding xor_bits
divide_step-xor_bits [] ys l k = absurd (omega arith)
divide_step-xor_bits (x ∷ xs) [] l k = absurd (omega arith)
divide_step-xor_bits (x ∷ xs) (y ∷ ys) l k =
    divide_step-cons (xor x y) (xor_bits xs ys) ∙ carried-xor x y xs ys (omega arith) ∙ sym (ap₂ xor_bits (divide_step-cons x xs) (divide_step-cons y ys))

pub length-carried : (bit : Bool) → length (carried bit) ≤ 32
length-carried true = omega (arith, length-polynomial)
length-carried false = omega arith

pub length-divide_step : (bit : Bool) (bits : List Bool) → 32 ≤ length bits → length (divide_step (bit ∷ bits)) ≡ length bits
length-divide_step bit bits le = ap length (divide_step-cons bit bits) ∙ length-xor_bits (carried bit) bits (omega (arith, length-carried bit))

pub length-divide_steps : (n m : ℕ) (bits : List Bool) → 32 ≤ m → length bits ≡ n + m → length (divide_steps n bits) ≡ m
unfolding divide_steps
length-divide_steps zero m bits le e = omega arith
length-divide_steps (suc n) m [] le e = absurd (omega arith)
length-divide_steps (suc n) m (b ∷ bs) le e = length-divide_steps n m (divide_step (b ∷ bs)) le (omega (arith, length-divide_step b bs (omega arith)))

-- so it is with any number of steps
pub divide_steps-xor_bits : (n : ℕ) (xs ys : List Bool) → n + 32 ≤ length xs → n + 32 ≤ length ys → divide_steps n (xor_bits xs ys) ≡ xor_bits (divide_steps n xs) (divide_steps n ys)
unfolding divide_steps
divide_steps-xor_bits zero xs ys l k = refl
divide_steps-xor_bits (suc n) [] ys l k = absurd (omega arith)
divide_steps-xor_bits (suc n) (x ∷ xs) [] l k = absurd (omega arith)
divide_steps-xor_bits (suc n) (x ∷ xs) (y ∷ ys) l k =
    ap (divide_steps n) (divide_step-xor_bits (x ∷ xs) (y ∷ ys) (omega arith) (omega arith))
    ∙ divide_steps-xor_bits n (divide_step (x ∷ xs)) (divide_step (y ∷ ys)) (omega (arith, length-divide_step x xs (omega arith))) (omega (arith, length-divide_step y ys (omega arith)))

-- leading zeros drop off
pub divide_steps-zeros : (n : ℕ) (bits : List Bool) → divide_steps n (zeros n ++ bits) ≡ bits
unfolding divide_steps zeros divide_step xor_bits
divide_steps-zeros zero bits = refl
divide_steps-zeros (suc n) bits = divide_steps-zeros n bits

pub divide_steps-add : (m n : ℕ) (bits : List Bool) → divide_steps (m + n) bits ≡ divide_steps n (divide_steps m bits)
unfolding divide_steps
divide_steps-add zero n bits = rw zero-add refl
divide_steps-add (suc m) n bits = rw suc-add (divide_steps-add m n (divide_step bits))

pub divide_steps-none : (bits : List Bool) → divide_steps 0 bits ≡ bits
unfolding divide_steps
divide_steps-none bits = refl

-- the bits after the front depend only on the register after the steps over the front
pub divide_steps-front : (register front rest : List Bool) → length register ≡ 32 → 32 ≤ length rest
    → divide_steps (length front) (xor_bits register (front ++ rest)) ≡ xor_bits (divide_steps (length front) (xor_bits register (front ++ zeros 32))) rest
divide_steps-front register front rest e le =
    let n = length front in
    let alone = xor_bits register (front ++ zeros 32) in
    let apart = parts_sum front rest n 32 refl le in
    let padded : length (front ++ zeros 32) ≡ n + 32 = omega (arith, length-append front (zeros 32), length-zeros 32) in
    let long : n + 32 ≤ length alone = omega (arith, length-xor_bits register (front ++ zeros 32) (omega arith)) in
    let rest_long : n + 32 ≤ length (zeros n ++ rest) = omega (arith, length-append (zeros n) rest, length-zeros n) in
    ap (λ (bits : List Bool). divide_steps n (xor_bits register bits)) apart
    ∙ ap (divide_steps n) (sym (xor_bits_assoc register (front ++ zeros 32) (zeros n ++ rest)))
    ∙ divide_steps-xor_bits n alone (zeros n ++ rest) long rest_long
    ∙ ap (xor_bits (divide_steps n alone)) (divide_steps-zeros n rest)

-- the remainder of bits is the sum of the remainder of the front, with zeros after it, and of that of the rest
pub divide_steps-split : (n m : ℕ) (front rest : List Bool) → length front ≡ n → length rest ≡ m + 32
    → divide_steps (n + m) (front ++ rest) ≡ xor_bits (divide_steps (n + m) (front ++ zeros (m + 32))) (divide_steps m rest)
divide_steps-split n m front rest e le =
    let alone = front ++ zeros (m + 32) in
    let long : n + m + 32 ≤ length alone = omega (arith, length-append front (zeros (m + 32)), length-zeros (m + 32)) in
    let rest_long : n + m + 32 ≤ length (zeros n ++ rest) = omega (arith, length-append (zeros n) rest, length-zeros n) in
    ap (divide_steps (n + m)) (parts_sum front rest n (m + 32) e (omega arith))
    ∙ divide_steps-xor_bits (n + m) alone (zeros n ++ rest) long rest_long
    ∙ ap (xor_bits (divide_steps (n + m) alone)) (divide_steps-add n m (zeros n ++ rest) ∙ ap (divide_steps m) (divide_steps-zeros n rest))
