-- Batches that are prepared only if what a transaction read in a view is as it was.
use Rattle.std.specs.Prelude.{◌≡◌, ℕ, List, [], Option, Some}
use Rattle.uc_oper.specs.Operation.{Operation}
use Rattle.uc_model.specs.Meaning.{value_of}
use Rattle.uc_serial.specs.ReadSets.{IsFirstChanged}
use Rattle.uc_serial.specs.declared.read.Read.{Read}
use Rattle.uc_live.specs.Lives as lives
use Rattle.uc_live.specs.Lives.{Live}
use Rattle.uc_live.specs.Views as views
use Rattle.uc_live.specs.Views.{Seen}
use Rattle.uc_live.specs.Writing.{Prepares, RefusesBatch, next_batch}
use Rattle.uc_live.specs.declared.transaction_error.TransactionError.{TransactionError}
use Rattle.uc_live.specs.declared.transaction_error.TransactionError.TheVariants.{Conflict, Write}

-- the value of a key in a view
abbrev pub value_before : Operation → Seen → List ℕ → Option (List ℕ)
value_before m s key = value_of m (views.writes_of s) key (views.last s)

-- the value of a key in a store, at the last sequence
abbrev pub value_now : Operation → Live → List ℕ → Option (List ℕ)
value_now m l key = value_of m (lives.writes_of l) key (lives.last l)

-- Why a transaction isn't prepared: one of its reads is changed, the first at this place, and the store is as it was; or its batch isn't.
abbrev pub Declines : Operation → (List ℕ → Option (List ℕ)) → List Read → List ℕ → Live → Live → TransactionError → Type 0
Declines m before reads batch old new (Conflict place) = IsFirstChanged before (value_now m old) reads (Some place) × (new ≡ old)
Declines m before reads batch old new (Write error) = RefusesBatch (next_batch (lives.last old) batch) new error × Prepares m old new []
