-- Prefixes of keys, as numbers that order as the keys do.
use Rattle.std.specs.Prelude.{◌≡◌, ℕ, ◌-◌, ◌^◌, ◌<◌, ◌≤◌, true, List, [], length, map, drop, slice_index, slice_index_or, nat_eq}
use Rattle.std.specs.Int.{w64, from_be_bytes}
use Rattle.std.specs.List.{All, common_prefix_len}
use Rattle.std.specs.Ordering.{is_le}
use Rattle.uc_bytes.specs.Bytes.{bytes_cmp}

-- the first eight bytes, the first one worth the most; one that isn't there counts as 0
unfoldable pub prefix_of : List ℕ → ℕ
prefix_of bytes = from_be_bytes w64 bytes

-- how many bytes keys in order have in common at their front: as many as the first and the last
abbrev pub shared_front : List (List ℕ) → ℕ
shared_front keys = common_prefix_len nat_eq (slice_index_or keys 0 []) (slice_index_or keys (length keys - 1) [])

abbrev pub AreBytes : List ℕ → Type 0
AreBytes xs = (i : ℕ) → slice_index xs i < 2 ^ 8

-- no key is above one after it
abbrev pub AreRising : List (List ℕ) → Type 0
AreRising keys = (i j : ℕ) (d : List ℕ) → i ≤ j → j < length keys → is_le (bytes_cmp (slice_index_or keys i d) (slice_index_or keys j d)) ≡ true

-- Each key has the prefix of its bytes after those that all keys share.
pub record ArePrefixes (keys : List (List ℕ)) (shared : ℕ) (prefixes : List ℕ) : Type 0 where
  pub front : shared ≡ shared_front keys
  pub each : prefixes ≡ map (λ key. prefix_of (drop shared key)) keys
  pub bytes : All (λ key. AreBytes (drop shared key)) keys
