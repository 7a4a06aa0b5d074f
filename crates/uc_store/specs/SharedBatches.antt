-- Batches of operations that are fed to a store that threads share.
use Rattle.std.specs.Prelude.{◌≡◌, ◌≢◌, ℕ, List, [], ◌∷◌, ◌++◌, Some, fold, length}
use mathlib.Core.List.{IsPrefix}
use Rattle.uc_bytes.specs.declared.op.Op.{Op}
use Rattle.uc_version_state.specs.Versions.{Stored}
use Rattle.uc_version_state.specs.Flushes.{memtables}
use Rattle.uc_version_state.specs.Feeds.{feed_refusal}
use Rattle.uc_version_state.specs.Histories.{after}
use Rattle.uc_version_state.specs.declared.event.Event.{Event}
use Rattle.uc_version_state.specs.declared.event.Event.TheVariants.{Flushed}
use Rattle.uc_version_state.specs.declared.feed_error.FeedError.{FeedError}
use Rattle.uc_version_state.specs.declared.feed_error.FeedError.TheVariants.{Memory}
use Rattle.uc_store.specs.Batches.{IsNext, next_writes}
use Rattle.uc_store.specs.declared.feed_batch_error.FeedBatchError.{FeedBatchError}
use Rattle.uc_store.specs.declared.feed_batch_error.FeedBatchError.TheVariants.{DoesNotFit, NotFed}

-- The history that a reader has seen is longer, and ends with a feed of these operations after the last sequence number of then.
-- There are `count` more runs.
pub record FeedsNext (base : Stored) (ops : List Op) (old new : List Event) (count : ℕ) : Type 0 where
  pub before : List Event
  pub behind : IsPrefix old before
  pub fed : new ≡ before ++ Flushed (next_writes (fold after base before) ops) ∷ []
  pub runs : count ≡ length (memtables base.limit (next_writes (fold after base before) ops))

-- the operations fit after a version that the reader saw, and the version that it has seen then rejects them as the writes that
-- they were after that one
pub record IsRefusedNext (base : Stored) (ops : List Op) (old new : List Event) (error : FeedError) : Type 0 where
  pub looked : List Event
  pub behind : IsPrefix old looked
  pub seen : IsPrefix looked new
  pub fits : IsNext (fold after base looked) ops
  pub refused : feed_refusal (fold after base new) (next_writes (fold after base looked) ops) ≡ Some error

-- Why they aren't fed. `Memory` may be returned in place of another error.
abbrev pub IsNotFedNext : Stored → List Op → List Event → List Event → FeedBatchError → Type 0
IsNotFedNext base ops old new DoesNotFit = ¬ IsNext (fold after base new) ops
IsNotFedNext base ops old new (NotFed error) = error ≢ Memory → IsRefusedNext base ops old new error
