-- Batches of operations that are fed to a store.
use Rattle.std.specs.Prelude.{◌≡◌, ◌⊎◌, ◌+◌, List, Some}
use Rattle.uc_bytes.specs.declared.op.Op.{Op}
use Rattle.uc_bytes.specs.declared.write.Write.{Write}
use Rattle.uc_batch.specs.Batch.{numbered}
use Rattle.uc_batch.specs.Spelling.{FitsBatch}
use Rattle.uc_version_state.specs.Versions.{Stored}
use Rattle.uc_version_state.specs.Feeds.{feed_refusal}
use Rattle.uc_version_state.specs.declared.feed_error.FeedError.TheVariants.{Memory}
use Rattle.uc_store.specs.declared.feed_batch_error.FeedBatchError.{FeedBatchError}
use Rattle.uc_store.specs.declared.feed_batch_error.FeedBatchError.TheVariants.{DoesNotFit, NotFed}

-- whether operations are a batch after the last sequence number
abbrev pub IsNext : Stored → List Op → Type 0
IsNext v ops = FitsBatch (v.last + 1) ops

-- their writes: each has the sequence number after the one before
abbrev pub next_writes : Stored → List Op → List Write
next_writes v ops = numbered (v.last + 1) ops

-- Why they aren't fed. `Memory` may be returned before the store finds another error.
abbrev pub IsNotFed : Stored → List Op → FeedBatchError → Type 0
IsNotFed v ops DoesNotFit = ¬ IsNext v ops
IsNotFed v ops (NotFed error) = IsNext v ops × ((error ≡ Memory) ⊎ (feed_refusal v (next_writes v ops) ≡ Some error))
