-- Checkpoints that C holds, and what is laid out of them.
use Rattle.std.specs.Prelude.{◌≡◌, ◌⊎◌, ◌≤◌, ◌<◌, ℕ, ℤ, Bool, true, false, List, Option, Some, None, MatchOption, IsSomeAnd, length}
use Rattle.uc_checkpoint.specs.Checkpoints.{LaysInto, RefusesPiece}
use Rattle.uc_checkpoint.specs.declared.checkpoint_error.CheckpointError.{CheckpointError}
use Rattle.uc_checkpoint.specs.declared.checkpoint_error.CheckpointError.TheVariants as errors
use Rattle.uc_engine.specs.EngineCheckpoints.{EngineProgress, begun}
use Rattle.uc_engine.specs.EngineViews.{Viewed}
use Rattle.uc_engine.specs.Engines.{meaning_of}
use Rattle.uc_c.specs.Replies.{IfThere, Names}
use Rattle.uc_c.specs.declared.status.TheConstants.{OK, OUT_OF_MEMORY, SEQUENCES_SPENT, TOO_LONG, ROOM, NO_VIEW, NO_CHECKPOINT, HAS_CHECKPOINT}

abbrev pub CheckpointSays : CheckpointError → ℤ → Type 0
CheckpointSays errors.TooLong status = status ≡ TOO_LONG
CheckpointSays errors.SequencesSpent status = status ≡ SEQUENCES_SPENT
CheckpointSays errors.Memory status = status ≡ OUT_OF_MEMORY

-- A checkpoint of the view is there, of which nothing is laid out yet, if there was none, and a view; else the status says
-- why not.
abbrev pub Begins : ℤ → Option Viewed → Option EngineProgress → Option EngineProgress → Type 0
Begins status view old new =
    MatchOption old
    (MatchOption view ((status ≡ NO_VIEW) × (new ≡ old))
    (λ v. ((status ≡ OK) × (new ≡ Some (begun v))) ⊎ ((status ≡ OUT_OF_MEMORY) × (new ≡ old))))
    (λ _. (status ≡ HAS_CHECKPOINT) × (new ≡ old))

-- the values that are stored for a piece of some size and a buffer of `room` bytes, or for no piece
abbrev pub TellsPiece : ℤ → Option ℕ → ℕ → ℕ → Bool → Type 0
TellsPiece status None room size done = (status ≡ OK) × (size ≡ 0) × (done ≡ true)
TellsPiece status (Some length) room size done =
    (size ≡ length)
    × (((length ≤ room) × (status ≡ OK) × (done ≡ false)) ⊎ ((room < length) × (status ≡ ROOM)))

module _ (status : ℤ) (len most : ℕ) (room room' : List ℕ) (size' : ℕ) (done' : Bool) where
  -- The next piece is in the buffer; or it doesn't fit, or no row is left, and nothing changed.
  pub record IsLaidNext (c c' : EngineProgress) : Type 0 where
    pub laid : Option ℕ
    pub lays : LaysInto (meaning_of c.kind) len most laid room room' c.progress c'.progress
    pub tells : TellsPiece status laid (length room) size' done'

  -- so it is, or the status says why no piece was laid out, and nothing changed
  abbrev pub LaysNext : EngineProgress → EngineProgress → Type 0
  LaysNext c c' =
      (c'.kind ≡ c.kind)
      × (IsLaidNext c c' ⊎ Names CheckpointSays status (λ error. RefusesPiece (meaning_of c.kind) c.progress error × (room' ≡ room) × (c' ≡ c)))

  -- so it is with the checkpoint, if there is one
  abbrev pub LaysHeld : Option EngineProgress → Option EngineProgress → Type 0
  LaysHeld old new = IfThere NO_CHECKPOINT status old new (λ c. IsSomeAnd new (LaysNext c))
