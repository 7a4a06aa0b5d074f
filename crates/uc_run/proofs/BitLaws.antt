-- Facts of the bits of a word.
use Rattle.std.proofs.Common.{◌≡◌, ℕ, min, sym, ap, ◌∙◌, arith}
use Rattle.std.specs.Int.{bit_at}
use Rattle.std.specs.Int.RustNames.{bit_and, bit_or}
use Rattle.std.proofs.lemmas.Nat.Bits.{same_from_bits, bit_at_and, bit_at_or}

-- more bits in a word take none away
pub kept_by_or : (word more bits : ℕ) → bit_and word bits ≡ bits → bit_and (bit_or word more) bits ≡ bits
kept_by_or word more bits has = same_from_bits (bit_and (bit_or word more) bits) bits (λ i.
    let had : min (bit_at word i) (bit_at bits i) ≡ bit_at bits i = sym (bit_at_and word bits i) ∙ ap (λ n. bit_at n i) has in
    omega (arith, bit_at_and (bit_or word more) bits i, bit_at_or word more i, had))

pub set_by_or : (word bits : ℕ) → bit_and (bit_or word bits) bits ≡ bits
set_by_or word bits = same_from_bits (bit_and (bit_or word bits) bits) bits (λ i.
    omega (arith, bit_at_and (bit_or word bits) bits i, bit_at_or word bits i))

-- those of the other are in it too
pub added_by_or : (word more bits : ℕ) → bit_and more bits ≡ bits → bit_and (bit_or word more) bits ≡ bits
added_by_or word more bits has = same_from_bits (bit_and (bit_or word more) bits) bits (λ i.
    let had : min (bit_at more i) (bit_at bits i) ≡ bit_at bits i = sym (bit_at_and more bits i) ∙ ap (λ n. bit_at n i) has in
    omega (arith, bit_at_and (bit_or word more) bits i, bit_at_or word more i, had))
