-- The bytes that a device shows of a log after a crash, and the batches that are read there.
use Rattle.std.specs.Prelude.{◌≡◌, ◌≤◌, ℕ, List, [], ◌∷◌, ◌++◌, take, Ok}
use Rattle.uc_bytes.specs.declared.write.Write.{Write}
use Rattle.uc_logrec.specs.Position.{LiesIn}
use Rattle.uc_logrec.specs.Walk.{Walks}
use Rattle.uc_batch.specs.Batch.{batch_of}
use Rattle.uc_batch.specs.Log.{batches_of}
use Rattle.uc_batch.specs.Rising.{last_of}

-- The device had the first `synced` bytes of a log for certain. It shows these, and after them anything: any part of what was
-- written, pages in any order, with zeros or older bytes between them.
abbrev pub Shows : List ℕ → ℕ → List ℕ → Type 0
Shows written synced shown = take synced shown ≡ take synced written

-- the last sequence of batches
abbrev pub last_in : List (List ℕ) → ℕ
last_in payloads = last_of 0 (batches_of 0 1 payloads).writes

-- The premise. Where a walk through the log ends, after the synced bytes, nothing is shown that passes as the next batch, by its
-- checksums and its sequence, but the one that was written there.
abbrev pub IsUnforged : List ℕ → ℕ → List ℕ → Type 0
IsUnforged written synced shown = (before : List (List ℕ)) (offset after : ℕ) (payload : List ℕ) (writes : List Write) → Walks written before offset → synced ≤ offset
    → LiesIn payload shown offset after → batch_of (last_in before) payload ≡ Ok writes → LiesIn payload written offset after

-- Reading continues after some batches: it finds others, each where the one before it ends, and with sequence numbers after all
-- before it.
pub data ReadsOn (shown : List ℕ) (before : List (List ℕ)) (from : ℕ) : List (List ℕ) → ℕ → Type 0 where
  nothing : ReadsOn shown before from [] from
  one_more : (found : List (List ℕ)) (offset : ℕ) (payload : List ℕ) (after : ℕ) (writes : List Write) → ReadsOn shown before from found offset
      → LiesIn payload shown offset after → batch_of (last_in (before ++ found)) payload ≡ Ok writes → ReadsOn shown before from (found ++ payload ∷ []) after
