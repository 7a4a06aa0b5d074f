-- Transactions of the handle's store: the reads that C holds, and batches that are prepared only if these are unchanged.
use Rattle.std.specs.Prelude.{◌≡◌, ◌⊎◌, ◌++◌, ◌∷◌, [], ℕ, ℤ, List, Option, Some, None, MatchOption}
use Rattle.uc_serial.specs.ReadSets.{IsFirstChanged}
use Rattle.uc_serial.specs.declared.read.Read.{Read}
use Rattle.uc_live.specs.declared.transaction_error.TransactionError.{TransactionError}
use Rattle.uc_live.specs.declared.transaction_error.TransactionError.TheVariants.{Conflict, Write}
use Rattle.uc_live.specs.Judging.{value_before, value_now}
use Rattle.uc_engine.specs.Engines.{Engined, meaning_of}
use Rattle.uc_engine.specs.EngineViews.{Viewed}
use Rattle.uc_c.specs.Replies.{Answers, Becomes, Names}
use Rattle.uc_c.specs.Statuses.{WriteSays}
use Rattle.uc_c.specs.Writing.{DeclinesBatch, IsTold}
use Rattle.uc_c.specs.declared.status.TheConstants.{OK, OUT_OF_MEMORY, NO_VIEW, READ_CHANGED}

-- the reads that C holds; none if the handle is zeros
abbrev pub reads_held : Option (List Read) → List Read
reads_held None = []
reads_held (Some reads) = reads

-- The read is added; or allocation failed, and the reads are unchanged.
abbrev pub Notes : ℤ → Option (List Read) → Option (List Read) → Read → Type 0
Notes status old new read =
    ((status ≡ OK) × (reads_held new ≡ reads_held old ++ read ∷ []))
    ⊎ ((status ≡ OUT_OF_MEMORY) × (reads_held new ≡ reads_held old))

-- why the batch isn't prepared: a read is changed, the first at this place, and the engine is as it was; or the batch isn't taken
abbrev pub FailsTo : (List ℕ → Option (List ℕ)) → List Read → List ℕ → Engined → Engined → TransactionError → Type 0
FailsTo before reads batch e e' (Conflict place) = IsFirstChanged before (value_now (meaning_of e.kind) e.live) reads (Some place) × (e' ≡ e)
FailsTo before reads batch e e' (Write error) = DeclinesBatch batch e e' error

module _ (status : ℤ) (len : ℕ) (batch room room' : List ℕ) (size' changed' : ℕ) (reads : List Read) where
  -- No read is changed, and the writes of the batch are prepared, as far as the buffer has room for their record; or the first read
  -- that is changed is stored, and the engine is as it was; or the status says why the batch isn't taken.
  abbrev pub JudgesBatch : Viewed → Engined → Engined → Type 0
  JudgesBatch v e e' =
      (IsFirstChanged (value_before (meaning_of v.kind) v.seen) (value_now (meaning_of e.kind) e.live) reads None × IsTold status len batch room room' size' e e')
      ⊎ (((status ≡ READ_CHANGED) × IsFirstChanged (value_before (meaning_of v.kind) v.seen) (value_now (meaning_of e.kind) e.live) reads (Some changed') × (e' ≡ e))
      ⊎ Names WriteSays status (DeclinesBatch batch e e'))

  -- so it is with the store, if there is one, and a view
  abbrev pub PreparesIf : Option Viewed → Option Engined → Option Engined → Type 0
  PreparesIf view old new = Becomes status old new (λ e e'. MatchOption view ((status ≡ NO_VIEW) × (e' ≡ e)) (λ v. JudgesBatch v e e'))

module _ (status : ℤ) (changed' : ℕ) (reads : List Read) where
  -- No read is changed; or the place of the first one that is changed is stored; or allocation failed.
  abbrev pub JudgesReads : Viewed → Engined → Type 0
  JudgesReads v e =
      ((status ≡ OK) × IsFirstChanged (value_before (meaning_of v.kind) v.seen) (value_now (meaning_of e.kind) e.live) reads None)
      ⊎ (((status ≡ READ_CHANGED) × IsFirstChanged (value_before (meaning_of v.kind) v.seen) (value_now (meaning_of e.kind) e.live) reads (Some changed'))
      ⊎ (status ≡ OUT_OF_MEMORY))

  -- so it is with the store, if there is one, and a view
  abbrev pub FindsChanged : Option Viewed → Option Engined → Option Engined → Type 0
  FindsChanged view old new = Answers status old new (λ e. MatchOption view (status ≡ NO_VIEW) (λ v. JudgesReads v e))
