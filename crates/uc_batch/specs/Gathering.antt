-- Operations encoded as the bytes of a batch without a sequence number, as a program builds one (RocksDB, `write_batch.cc`).
use Rattle.std.specs.Prelude.{◌≡◌, ℕ, ◌+◌, ◌^◌, ◌<◌, List, ◌++◌, length, drop, All}
use Rattle.std.specs.Int.{w64, to_le_bytes}
use Rattle.uc_bytes.specs.declared.op.Op.{Op}
use Rattle.uc_batch.specs.declared.push_error.PushError.{PushError}
use Rattle.uc_batch.specs.declared.push_error.PushError.TheVariants.{TooLong, Full, Memory}
use Rattle.uc_batch.specs.Batch.{ops_in}
use Rattle.uc_batch.specs.Spelling.{batch_text, FitsOp}

-- the operations in the bytes of a batch
abbrev pub gathered_ops : List ℕ → List Op
gathered_ops bytes = ops_in (length bytes) (drop 12 bytes)

-- the count and the strings of operations fit a batch
pub record FitTogether (ops : List Op) : Type 0 where
  pub few : length ops < 2 ^ 32
  pub strings : All FitsOp ops

-- The bytes encode a batch of `count` operations, with the sequence number 0.
pub record AreGathered (count : ℕ) (bytes : List ℕ) (ops : List Op) : Type 0 where
  pub text : bytes ≡ batch_text 0 ops
  pub counted : count ≡ length ops
  pub fit : FitTogether ops

-- why a batch of operations takes no other one
abbrev pub RefusesOp : Op → List Op → PushError → Type 0
RefusesOp op ops TooLong = FitsOp op → ⊥
RefusesOp op ops Full = length ops + 1 ≡ 2 ^ 32
RefusesOp op ops Memory = Unit {0}

-- the bytes of the operations' batch, with another sequence in the 8 bytes where a batch has its own
abbrev pub numbered_text : ℕ → List Op → List ℕ
numbered_text seq ops = to_le_bytes w64 seq ++ drop 8 (batch_text 0 ops)
