-- The masked form in which LevelDB's log stores a checksum (`util/crc32c.h`), of numbers below
-- 2^32.
use Rattle.std.specs.Prelude.{ℕ, ◌+◌, ◌-◌, ◌*◌, ◌/◌, ◌%◌, ◌^◌}

abbrev pub mask_delta : ℕ
mask_delta = 0xa282ead8

-- swaps the low 15 bits with the 17 above them, then adds the delta modulo 2^32
unfoldable pub masked : ℕ → ℕ
masked crc = (crc % 2 ^ 15 * 2 ^ 17 + crc / 2 ^ 15 + mask_delta) % 2 ^ 32

-- subtracts the delta modulo 2^32, then swaps the low 17 bits with the 15 above them
unfoldable pub unmasked : ℕ → ℕ
unmasked stored =
    let turned = (stored + (2 ^ 32 - mask_delta)) % 2 ^ 32 in
    turned % 2 ^ 17 * 2 ^ 15 + turned / 2 ^ 17
