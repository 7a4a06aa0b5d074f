-- CRC-32C, as RFC 3720 (section 12.1) and LevelDB's `util/crc32c` have it: the remainder of the
-- message's bits, inverted at the start and at the end.
use Rattle.std.specs.Prelude.{ℕ, Bool, List, ◌++◌, take, drop}
use Rattle.uc_logrec.specs.Bits.{lowest_first, number_of, bits_of, inverted, zeros}
use Rattle.uc_logrec.specs.Division.{xor_bits, remainder}

-- the message's bits and then 32 zeros, with the first 32 of all these inverted
unfoldable pub dividend_of : List ℕ → List Bool
dividend_of bytes =
    let bits = bits_of bytes ++ zeros 32 in
    inverted (take 32 bits) ++ drop 32 bits

-- the checksum of a message: the remainder inverted, its first bit the lowest of the number
unfoldable pub crc_of : List ℕ → ℕ
crc_of bytes = number_of (inverted (remainder (dividend_of bytes)))

-- ---- a message in pieces

-- the register that bytes lead to from a register of 32 bits. It is the remainder of the bytes' bits and 32 zeros, to
-- whose front the old register is added
unfoldable pub register_after : List Bool → List ℕ → List Bool
register_after register bytes = remainder (xor_bits register (bits_of bytes ++ zeros 32))

-- the checksum of a message whose front has the checksum crc and whose other bytes are these: after the front, the
-- register had crc's bits, inverted
unfoldable pub extended : ℕ → List ℕ → ℕ
extended crc bytes = number_of (inverted (register_after (inverted (lowest_first 32 crc)) bytes))
