-- Numbers of 32 bits in one to five bytes, low seven bits first (RocksDB, `coding.h`, `GetVarint32`).
use Rattle.std.specs.Prelude.{ℕ, zero, suc, List, [], ◌∷◌, Result, Ok, Err, ◌+◌, ◌-◌, ◌*◌, nat_lt, if◌then◌else◌}
use Rattle.uc_batch.specs.declared.error.BatchError.{BatchError}
use Rattle.uc_batch.specs.declared.error.BatchError.TheVariants.{Cut, BadVarint}
use Rattle.uc_batch.specs.Reads.{◌>>=◌}

-- the number at the front, of one byte and at most `more` others, and the bytes after it
unfoldable pub varint_from : ℕ → ℕ → ℕ → List ℕ → Result (ℕ × List ℕ) BatchError
varint_from more start here [] = Err (Cut start)
varint_from zero start here (b ∷ rest) = if nat_lt b 16 then Ok (b, rest) else Err (BadVarint here)
varint_from (suc more) start here (b ∷ rest) =
    if nat_lt b 128 then Ok (b, rest)
    else (varint_from more start here rest >>= λ high. Ok ((b - 128) + 128 * high.0, high.1))

-- the bound below which a number of one byte and at most `more` others lies
abbrev pub room_for : ℕ → ℕ
room_for zero = 16
room_for (suc more) = 128 * room_for more
