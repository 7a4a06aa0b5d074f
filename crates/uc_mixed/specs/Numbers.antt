-- The greater and the lesser of two numbers of 64 bits, and their sum if it has 64 bits. Numbers are spelled as a counter's are.
use Rattle.std.specs.Prelude.{◌≡◌, ℕ, ◌+◌, ◌-◌, ◌%◌, ◌^◌, ◌<◌, List, max, min}
use Rattle.std.specs.Int.{w64, to_le_bytes}
use Rattle.std.proofs.Common.{ap, ◌∙◌, sym, arith}
use Rattle.std.proofs.lemmas.Nat.{from_le_bytes-to_le_bytes_8}
use Rattle.uc_oper.specs.Operation.{Operation, IsLawful}
use Rattle.uc_oper.specs.Counting.{number, counted}

-- the number that a value encodes, modulo 2^64: of bytes it is the number
abbrev pub bounded : List ℕ → ℕ
bounded x = number x % 2 ^ 64

abbrev pub greater_number : List ℕ → List ℕ → List ℕ
greater_number x y = counted (max (bounded x) (bounded y))

abbrev pub lesser_number : List ℕ → List ℕ → List ℕ
lesser_number x y = counted (min (bounded x) (bounded y))

-- the sum, or the greatest number if it is greater
abbrev pub limited_sum : List ℕ → List ℕ → List ℕ
limited_sum x y = counted (min (bounded x + bounded y) (2 ^ 64 - 1))

-- a number is read as it was written
read : (n : ℕ) → bounded (counted n) ≡ n % 2 ^ 64
read n = let e = from_le_bytes-to_le_bytes_8 (n % 2 ^ 64) (omega arith) in ap (λ (m : ℕ). m % 2 ^ 64) e ∙ let same : (n % 2 ^ 64) % 2 ^ 64 ≡ n % 2 ^ 64 = omega arith in same

abbrev pub by_number : (ℕ → ℕ → ℕ) → Operation
by_number f = record { first = λ x. counted (number x); join = λ x y. counted (f (bounded x) (bounded y)); pair = λ x y. counted (f (bounded x) (bounded y)) }

module _ (f : ℕ → ℕ → ℕ) (within : (a b : ℕ) → a < 2 ^ 64 → b < 2 ^ 64 → f a b < 2 ^ 64) (assoc : (a b c : ℕ) → f (f a b) c ≡ f a (f b c)) where
  bounded_lt : (x : List ℕ) → bounded x < 2 ^ 64
  bounded_lt x = omega arith

  kept : (x y : List ℕ) → bounded (counted (f (bounded x) (bounded y))) ≡ f (bounded x) (bounded y)
  kept x y = read (f (bounded x) (bounded y)) ∙ let lt = within (bounded x) (bounded y) (bounded_lt x) (bounded_lt y) in small (f (bounded x) (bounded y)) lt
    where
      small : (n : ℕ) → n < 2 ^ 64 → n % 2 ^ 64 ≡ n
      small n lt = omega arith

  grouped : (x y z : List ℕ) → counted (f (bounded (counted (f (bounded x) (bounded y)))) (bounded z)) ≡ counted (f (bounded x) (bounded (counted (f (bounded y) (bounded z)))))
  grouped x y z = ap counted (ap (λ (n : ℕ). f n (bounded z)) (kept x y) ∙ assoc (bounded x) (bounded y) (bounded z) ∙ sym (ap (f (bounded x)) (kept y z)))

  begun : (x y : List ℕ) → counted (number (counted (f (bounded x) (bounded y)))) ≡ counted (f (bounded (counted (number x))) (bounded y))
  begun x y =
      twice (number (counted (f (bounded x) (bounded y))))
      ∙ ap counted (kept x y)
      ∙ sym (ap (λ (n : ℕ). counted (f n (bounded y))) (read (number x)))
    where
      twice : (n : ℕ) → counted n ≡ counted (n % 2 ^ 64)
      twice n = let e : n % 2 ^ 64 ≡ (n % 2 ^ 64) % 2 ^ 64 = omega arith in ap (to_le_bytes w64) e

  pub by_number_lawful : IsLawful (by_number f)
  by_number_lawful = record { join_pair = λ b x y. sym (grouped b x y); first_pair = begun; pair_assoc = grouped }

pub greater_number_lawful : IsLawful (by_number max)
greater_number_lawful = by_number_lawful max (λ a b p q. omega arith) (λ a b c. omega arith)

pub lesser_number_lawful : IsLawful (by_number min)
lesser_number_lawful = by_number_lawful min (λ a b p q. omega arith) (λ a b c. omega arith)

pub limited_sum_lawful : IsLawful (by_number (λ a b. min (a + b) (2 ^ 64 - 1)))
limited_sum_lawful = by_number_lawful (λ a b. min (a + b) (2 ^ 64 - 1)) (λ a b p q. omega arith) (λ a b c. omega arith)
