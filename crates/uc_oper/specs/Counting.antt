-- Counters: numbers of 64 bits, low byte first, whose sums wrap (RocksDB, `UInt64AddOperator`).
use Rattle.std.specs.Prelude.{◌≡◌, ℕ, ◌+◌, ◌%◌, ◌^◌, ◌==◌, List, length, if◌then◌else◌}
use Rattle.std.specs.Int.{w64, from_le_bytes, to_le_bytes}
use Rattle.std.proofs.Common.{ap, ◌∙◌, sym, arith}
use Rattle.std.proofs.lemmas.Nat.{from_le_bytes-to_le_bytes_8}
use Rattle.uc_oper.specs.Operation.{Operation, IsLawful}

-- the number that a value encodes: 8 bytes, low byte first; otherwise 0
abbrev pub number : List ℕ → ℕ
number x = if length x == 8 then from_le_bytes w64 x else 0

-- a number modulo 2^64, as 8 bytes
abbrev pub counted : ℕ → List ℕ
counted n = to_le_bytes w64 (n % 2 ^ 64)

abbrev pub sum_of : List ℕ → List ℕ → List ℕ
sum_of x y = counted (number x + number y)

abbrev pub counting : Operation
counting = record { first = λ x. counted (number x); join = sum_of; pair = sum_of }

number-counted : (n : ℕ) → number (counted n) ≡ n % 2 ^ 64
number-counted n = from_le_bytes-to_le_bytes_8 (n % 2 ^ 64) (omega arith)

-- it doesn't matter which sum wraps first
wraps_left : (a b c : ℕ) → a ≡ b % 2 ^ 64 → (a + c) % 2 ^ 64 ≡ (b + c) % 2 ^ 64
wraps_left a b c e = omega arith

wraps_right : (a b c : ℕ) → a ≡ b % 2 ^ 64 → (c + a) % 2 ^ 64 ≡ (c + b) % 2 ^ 64
wraps_right a b c e = omega arith

sum_assoc : (x y z : List ℕ) → sum_of x (sum_of y z) ≡ sum_of (sum_of x y) z
sum_assoc x y z =
    let right : (number x + number (sum_of y z)) % 2 ^ 64 ≡ (number x + (number y + number z)) % 2 ^ 64 = wraps_right (number (sum_of y z)) (number y + number z) (number x) (number-counted (number y + number z)) in
    let left : (number (sum_of x y) + number z) % 2 ^ 64 ≡ ((number x + number y) + number z) % 2 ^ 64 = wraps_left (number (sum_of x y)) (number x + number y) (number z) (number-counted (number x + number y)) in
    let middle : (number x + (number y + number z)) % 2 ^ 64 ≡ ((number x + number y) + number z) % 2 ^ 64 = omega arith in
    ap (to_le_bytes w64) (right ∙ middle ∙ sym left)

first_sum : (x y : List ℕ) → counted (number (sum_of x y)) ≡ sum_of (counted (number x)) y
first_sum x y =
    let whole : number (sum_of x y) ≡ (number x + number y) % 2 ^ 64 = number-counted (number x + number y) in
    let left : (number (counted (number x)) + number y) % 2 ^ 64 ≡ (number x + number y) % 2 ^ 64 = wraps_left (number (counted (number x))) (number x) (number y) (number-counted (number x)) in
    let again : number (sum_of x y) % 2 ^ 64 ≡ (number x + number y) % 2 ^ 64 = omega arith in
    ap (to_le_bytes w64) (again ∙ sym left)

pub counting_lawful : IsLawful counting
counting_lawful = record { join_pair = sum_assoc; first_pair = first_sum; pair_assoc = λ x y z. sym (sum_assoc x y z) }
