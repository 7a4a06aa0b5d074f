-- A script's writes as a log, a batch for each write.
use Rattle.std.specs.Prelude.{ℕ, ◌+◌, ◌≤◌, ◌^◌, List, [], ◌∷◌, length, All}
use Rattle.uc_bytes.specs.declared.op.Op.{Op}
use Rattle.uc_batch.specs.Spelling.{batch_text, FitsOp}

-- a batch for each operation, the first with this sequence
abbrev pub batch_texts : ℕ → List Op → List (List ℕ)
batch_texts seq [] = []
batch_texts seq (op ∷ ops) = batch_text seq (op ∷ []) ∷ batch_texts (seq + 1) ops

-- each operation fits a batch of its own, the first with this sequence
pub record FitsLog (seq : ℕ) (ops : List Op) : Type 0 where
  pub from_one : 1 ≤ seq
  pub few : seq + length ops ≤ 2 ^ 56
  pub strings : All FitsOp ops
