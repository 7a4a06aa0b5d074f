-- Which keys a filter admits.
use Rattle.std.specs.Prelude.{◌≡◌, ℕ, ◌+◌, ◌*◌, ◌/◌, ◌%◌, ◌^◌, ◌<◌, List, length, slice_index}
use Rattle.std.specs.Int.RustNames.{bit_and, bit_or}
use Rattle.std.specs.List.{All}
use Rattle.uc_run_entry.specs.declared.entry.Entry.{Entry}
use Rattle.uc_run.specs.KeyHash.{key_hash}
use Rattle.uc_run.specs.declared.filter_bits.Probes.{Probes}

unfoldable pub block_of : ℕ → ℕ → ℕ
block_of hash blocks = hash * blocks / 2 ^ 64

unfoldable pub one_bit : ℕ → ℕ
one_bit hash = 2 ^ (hash % 64)

unfoldable pub three_bits : ℕ → ℕ
three_bits hash = bit_or (bit_or (one_bit hash) (one_bit (hash / 2 ^ 6))) (one_bit (hash / 2 ^ 12))

-- the positions of the bits of a key with this hash, in a filter of `words` words
unfoldable pub probes_of : ℕ → ℕ → Probes
probes_of hash words = record {
  first = block_of hash (words / 8) * 8 + hash / 2 ^ 36 % 4;
  first_bits = three_bits hash;
  second = block_of hash (words / 8) * 8 + 4 + hash / 2 ^ 38 % 4;
  second_bits = three_bits (hash / 2 ^ 18);
}

-- the word at a place has all of these bits
pub record HasBits (words : List ℕ) (place bits : ℕ) : Type 0 where
  pub there : place < length words
  pub set : bit_and (slice_index words place) bits ≡ bits

pub record HasProbes (words : List ℕ) (probes : Probes) : Type 0 where
  pub first : HasBits words probes.first probes.first_bits
  pub second : HasBits words probes.second probes.second_bits

-- the words have all bits of the key
abbrev pub Admits : List ℕ → List ℕ → Type 0
Admits words key = HasProbes words (probes_of (key_hash key) (length words))

-- and those of each point's key
abbrev pub AdmitsAll : List ℕ → List Entry → Type 0
AdmitsAll words points = All (λ p. Admits words p.key) points
