-- Long division divides.
use Rattle.std.proofs.Common.{◌≡◌, ℕ, zero, suc, ◌+◌, ◌-◌, ◌≤◌, Bool, true, false, cond, List, [], ◌∷◌, ◌++◌, length, refl, sym, ap, ap₂, ◌∙◌, arith}
use mathlib.Core.Bool.{xor}
use Rattle.uc_logrec.specs.Bits.{zeros}
use Rattle.uc_logrec.specs.Division.{xor_bits, divisor, divide_step, divide_steps, remainder, product, IsDivision}
use Rattle.uc_logrec.proofs.BitLists.{xor_bits_assoc, xor_bits_twice, xor_bits-zeros, length-xor_bits}
use Rattle.uc_logrec.proofs.Dividing.{carried, divide_step-cons, length-carried, length-divide_step, length-divide_steps, length-polynomial, divide_steps-none}

-- a bit's multiple of the divisor, without the leading bit and with it
taken : (bit : Bool) (bits : List Bool) → xor_bits (cond bit divisor []) (false ∷ bits) ≡ bit ∷ xor_bits (carried bit) bits
unfolding divisor xor_bits xor
taken true bits = refl
taken false bits = refl

length-divisor : length divisor ≡ 33
unfolding divisor
length-divisor = ap suc length-polynomial

-- a bit that is divided stands in front of what the step leaves
undone : (bit : Bool) (bits : List Bool) → 32 ≤ length bits → bit ∷ bits ≡ xor_bits (cond bit divisor []) (false ∷ divide_step (bit ∷ bits))
undone bit bits le =
    sym (taken bit (divide_step (bit ∷ bits))
    ∙ ap (λ (bs : List Bool). bit ∷ xor_bits (carried bit) bs) (divide_step-cons bit bits)
    ∙ ap (λ (bs : List Bool). bit ∷ bs) (xor_bits_twice (carried bit) bits (omega (arith, length-carried bit))))

false_ahead : (xs ys : List Bool) → xor_bits (false ∷ xs) (false ∷ ys) ≡ false ∷ xor_bits xs ys
unfolding xor_bits xor
false_ahead xs ys = refl

zeros-suc : (n : ℕ) (bits : List Bool) → zeros (suc n) ++ bits ≡ false ∷ (zeros n ++ bits)
unfolding zeros
zeros-suc n bits = refl

product-cons : (x : Bool) (xs ys : List Bool) → product (x ∷ xs) ys ≡ xor_bits (cond x ys []) (false ∷ product xs ys)
unfolding product
product-cons x xs ys = refl

-- a quotient's product with the divisor, plus the rest
sum_of : List Bool → List Bool → List Bool
sum_of quotient rest = xor_bits (product quotient divisor) (zeros (length quotient) ++ rest)

sum_of-cons : (bit : Bool) (quotient rest : List Bool) → sum_of (bit ∷ quotient) rest ≡ xor_bits (cond bit divisor []) (false ∷ sum_of quotient rest)
unfolding sum_of
sum_of-cons bit quotient rest =
    let q = product quotient divisor in
    let z = zeros (length quotient) ++ rest in
    ap₂ xor_bits (product-cons bit quotient divisor) (zeros-suc (length quotient) rest)
    ∙ xor_bits_assoc (cond bit divisor []) (false ∷ q) (false ∷ z)
    ∙ ap (xor_bits (cond bit divisor [])) (false_ahead q z)

sum_of-nil : (rest : List Bool) → length rest ≡ 32 → sum_of [] rest ≡ rest
unfolding sum_of product zeros
sum_of-nil rest e = ap (λ (n : ℕ). xor_bits (zeros (n - 1)) rest) length-divisor ∙ xor_bits-zeros 32 rest (omega arith)

divide_steps-suc : (n : ℕ) (bit : Bool) (bits : List Bool) → divide_steps (suc n) (bit ∷ bits) ≡ divide_steps n (divide_step (bit ∷ bits))
unfolding divide_steps
divide_steps-suc n bit bits = refl

-- ---- there is a quotient

quotient-cons : (bit : Bool) (bits quotient rest : List Bool) → 32 ≤ length bits → divide_step (bit ∷ bits) ≡ sum_of quotient rest → bit ∷ bits ≡ sum_of (bit ∷ quotient) rest
quotient-cons bit bits quotient rest le e =
    undone bit bits le ∙ ap (λ (bs : List Bool). xor_bits (cond bit divisor []) (false ∷ bs)) e ∙ sym (sum_of-cons bit quotient rest)

-- a list is this quotient times the divisor plus this rest
record IsSum (n : ℕ) (bits rest : List Bool) : Type 0 where
  quotient : List Bool
  quotient_length : length quotient ≡ n
  sum : bits ≡ sum_of quotient rest

quotient_of : (n : ℕ) (bits : List Bool) → length bits ≡ n + 32 → IsSum n bits (divide_steps n bits)
quotient_of zero bits e = record { quotient = []; quotient_length = refl; sum = sym (ap (sum_of []) (divide_steps-none bits) ∙ sum_of-nil bits (omega arith)) }
quotient_of (suc n) [] e = absurd (omega arith)
quotient_of (suc n) (bit ∷ bits) e =
    let long : 32 ≤ length bits = omega arith in
    let next = divide_step (bit ∷ bits) in
    let more = quotient_of n next (omega (arith, length-divide_step bit bits long)) in
    let steps = divide_steps-suc n bit bits in
    record {
      quotient = bit ∷ more.quotient;
      quotient_length = ap suc more.quotient_length;
      sum = quotient-cons bit bits more.quotient (divide_steps n next) long more.sum ∙ ap (sum_of (bit ∷ more.quotient)) (sym steps);
    }

remainder_steps : (n : ℕ) (bits : List Bool) → length bits ≡ n + 32 → divide_steps n bits ≡ remainder bits
unfolding remainder
remainder_steps n bits e =
    let k : n ≡ length bits - 32 = omega arith in
    ap (λ (i : ℕ). divide_steps i bits) k

pub has_division : (bits : List Bool) → 32 ≤ length bits → (quotient : List Bool) × IsDivision bits quotient (remainder bits)
unfolding sum_of
has_division bits le =
    let n = length bits - 32 in
    let e : length bits ≡ n + 32 = omega arith in
    let q = quotient_of n bits e in
    let same = remainder_steps n bits e in (
      q.quotient,
      record {
        quotient_length = omega (arith, q.quotient_length);
        rest_length = ap length (sym same) ∙ length-divide_steps n 32 bits (omega arith) e;
        sum = q.sum ∙ ap (sum_of q.quotient) same;
      },
    )

-- ---- there is no other remainder

length-sum_of : (quotient rest : List Bool) → length rest ≡ 32 → length (sum_of quotient rest) ≡ length quotient + 32
length-sum_of [] rest e = ap length (sum_of-nil rest e) ∙ omega arith
length-sum_of (bit ∷ quotient) rest e =
    let inner = sum_of quotient rest in
    let long = length-sum_of quotient rest e in
    ap length (sum_of-cons bit quotient rest ∙ taken bit inner) ∙ ap suc (length-xor_bits (carried bit) inner (omega (arith, length-carried bit))) ∙ omega arith

-- the steps of long division take the product away again
steps_of_sum : (quotient rest : List Bool) → length rest ≡ 32 → divide_steps (length quotient) (sum_of quotient rest) ≡ rest
steps_of_sum [] rest e = divide_steps-none (sum_of [] rest) ∙ sum_of-nil rest e
steps_of_sum (bit ∷ quotient) rest e =
    let n = length quotient in
    let inner = sum_of quotient rest in
    let long : length inner ≡ n + 32 = length-sum_of quotient rest e in
    ap (divide_steps (suc n)) (sum_of-cons bit quotient rest ∙ taken bit inner)
    ∙ divide_steps-suc n bit (xor_bits (carried bit) inner)
    ∙ ap (divide_steps n) (divide_step-cons bit (xor_bits (carried bit) inner) ∙ xor_bits_twice (carried bit) inner (omega (arith, length-carried bit)))
    ∙ steps_of_sum quotient rest e

pub has_one_remainder : (bits quotient rest : List Bool) → IsDivision bits quotient rest → rest ≡ remainder bits
unfolding sum_of
has_one_remainder bits quotient rest d =
    sym (steps_of_sum quotient rest d.rest_length) ∙ ap (divide_steps (length quotient)) (sym d.sum) ∙ remainder_steps (length quotient) bits (sym d.quotient_length)
