-- A batch: a sequence, a count, and that many counted records (RocksDB, `write_batch.cc`).
use Rattle.std.specs.Prelude.{◌≡◌, ℕ, List, [], ◌∷◌, length, take, drop, ◌&&◌, Result, Ok, Err, ◌+◌, ◌-◌, ◌^◌, ◌==◌, nat_lt, nat_le, if◌then◌else◌}
use Rattle.std.specs.Int.{w32, w64, from_le_bytes}
use Rattle.uc_bytes.specs.declared.op.Op.{Op}
use Rattle.uc_bytes.specs.declared.write.Write.{Write}
use Rattle.uc_batch.specs.declared.error.BatchError.{BatchError}
use Rattle.uc_batch.specs.declared.error.BatchError.TheVariants.{TooShort, SequenceBack, SequenceTooLarge, WrongCount}
use Rattle.uc_batch.specs.Reads.{◌>>=◌}
use Rattle.uc_batch.specs.Records.{operations}

-- the operations with rising sequences
abbrev pub numbered : ℕ → List Op → List Write
numbered seq [] = []
numbered seq (op ∷ ops) = record { seq = seq; op = op } ∷ numbered (seq + 1) ops

-- the operations that were read; none after a fault
abbrev pub read_ops : Result (List Op) BatchError → List Op
read_ops (Ok ops) = ops
read_ops (Err e) = []

-- the operations of records, the last bytes of a batch of `total` bytes; none if one of them is faulty
abbrev pub ops_in : ℕ → List ℕ → List Op
ops_in total rest = read_ops (operations total rest)

-- the last sequence of `count` operations of which the first has this one, or `last` if there is none
abbrev pub last_numbered : ℕ → ℕ → ℕ → ℕ
last_numbered last seq count = if count == 0 then last else seq + (count - 1)

-- the writes of a batch with valid records, if the first has this sequence number
abbrev pub writes_in : ℕ → List ℕ → List Write
writes_in seq bytes = numbered seq (ops_in (length bytes) (drop 12 bytes))

-- the records have no fault, and `count` of them are counted
pub record AreCounted (count total : ℕ) (rest : List ℕ) : Type 0 where
  pub fine : operations total rest ≡ Ok (ops_in total rest)
  pub counted : count ≡ length (ops_in total rest)

-- the operations of the body, which must be `count`
unfoldable pub counted_of : ℕ → ℕ → ℕ → List ℕ → Result (List Write) BatchError
counted_of seq count total body = do
  ops ← operations total body
  if length ops == count then Ok (numbered seq ops) else Err WrongCount

-- the sequence of a batch with records is above the last one used, and its last record's is below 2^56
unfoldable pub judged : ℕ → ℕ → ℕ → Result ℕ BatchError
judged last seq count =
    if nat_lt 0 count && nat_le seq last then Err (SequenceBack last)
    else if nat_lt 0 count && nat_lt (2 ^ 56) (seq + count) then Err SequenceTooLarge
    else Ok seq

-- the writes of a batch that comes after the sequence `last`, or its first fault
unfoldable pub batch_of : ℕ → List ℕ → Result (List Write) BatchError
batch_of last bytes =
    if nat_lt (length bytes) 12 then Err TooShort
    else (judged last (from_le_bytes w64 (take 8 bytes)) (from_le_bytes w32 (take 4 (drop 8 bytes)))
    >>= λ seq. counted_of seq (from_le_bytes w32 (take 4 (drop 8 bytes))) (length bytes) (drop 12 bytes))
