-- The hash of a key. All that counts is that equal keys have equal hashes.
use Rattle.std.specs.Prelude.{ℕ, zero, suc, ◌-◌, ◌*◌, ◌/◌, ◌%◌, ◌^◌, List, length, drop}
use Rattle.std.specs.Int.{w64, from_le_bytes}
use Rattle.std.specs.Int.RustNames.{bit_xor}

-- what a word is multiplied by, and what all is at the end
abbrev pub word_factor : ℕ
word_factor = 11562461410679940143

abbrev pub last_factor : ℕ
last_factor = 16646288086500911323

-- the halves of a product of two numbers below 2 ^ 64, combined
unfoldable pub folded_product : ℕ → ℕ → ℕ
folded_product number factor = bit_xor (number * factor % 2 ^ 64) (number * factor / 2 ^ 64)

-- the first eight bytes, the first one worth the least; one that isn't there counts as 0
unfoldable pub first_word : List ℕ → ℕ
first_word bytes = from_le_bytes w64 bytes

-- the eight bytes from a place on
unfoldable pub word_at : List ℕ → ℕ → ℕ
word_at bytes place = first_word (drop place bytes)

-- the length, and the first words in turn
unfoldable pub state_after : List ℕ → ℕ → ℕ
state_after key zero = length key
state_after key (suc words) = folded_product (bit_xor (state_after key words) (word_at key (words * 8))) word_factor

-- all whole words before the last byte, and then the last eight bytes
unfoldable pub key_hash : List ℕ → ℕ
key_hash key =
    folded_product
    (folded_product
    (bit_xor (state_after key ((length key - 1) / 8)) (word_at key (length key - 8)))
    word_factor)
    last_factor
