-- Polynomials over GF(2), each a list of its coefficients with that of the highest power first, and
-- their division with remainder as it is done on paper.
use Rattle.std.specs.Prelude.{◌≡◌, ℕ, zero, suc, ◌+◌, ◌-◌, Bool, true, false, List, [], ◌∷◌, ◌++◌, length, drop, reverse, if◌then◌else◌}
use Rattle.std.specs.Bool.{xor}
use Rattle.uc_logrec.specs.Bits.{lowest_first, zeros}

-- the sum, and so the difference, of two polynomials whose lists begin at one power: bit by bit, without carry. What
-- one list has beyond the other stays
unfoldable pub xor_bits : List Bool → List Bool → List Bool
xor_bits [] ys = ys
xor_bits (x ∷ xs) [] = x ∷ xs
xor_bits (x ∷ xs) (y ∷ ys) = xor x y ∷ xor_bits xs ys

-- Castagnoli's polynomial (RFC 3720, section 12.1) without its leading x^32: the highest bit of the
-- number is the coefficient of x^31
unfoldable pub polynomial : List Bool
polynomial = reverse (lowest_first 32 0x1edc6f41)

-- the divisor, of degree 32
unfoldable pub divisor : List Bool
divisor = true ∷ polynomial

-- one step of long division: if the leading bit is set, the divisor is subtracted from the front; the leading bit, 0 by
-- then, is dropped
unfoldable pub divide_step : List Bool → List Bool
divide_step [] = []
divide_step (bit ∷ bits) = drop 1 (xor_bits (if bit then divisor else []) (bit ∷ bits))

unfoldable pub divide_steps : ℕ → List Bool → List Bool
divide_steps zero bits = bits
divide_steps (suc count) bits = divide_steps count (divide_step bits)

-- the remainder of long division by the divisor: a step for each bit before the last 32
unfoldable pub remainder : List Bool → List Bool
remainder bits = divide_steps (length bits - 32) bits

-- ---- that this is division

-- the product of two polynomials as on paper: the sum of the second, shifted, for each 1 of the first
unfoldable pub product : List Bool → List Bool → List Bool
product [] ys = zeros (length ys - 1)
product (x ∷ xs) ys = xor_bits (if x then ys else []) (false ∷ product xs ys)

-- the bits are quotient times divisor plus rest, and the rest's degree is below the divisor's
pub record IsDivision (bits quotient rest : List Bool) : Type 0 where
  pub quotient_length : length quotient + 32 ≡ length bits
  pub rest_length : length rest ≡ 32
  pub sum : bits ≡ xor_bits (product quotient divisor) (zeros (length quotient) ++ rest)
