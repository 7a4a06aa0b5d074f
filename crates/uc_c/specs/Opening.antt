-- The engine that an opening puts into a handle.
use Rattle.std.specs.Prelude.{◌≡◌, ◌≢◌, [], ℕ, ℤ, Bool, List, true, false, Option, ◌⊎◌, MatchOption, IsSomeAnd}
use Rattle.uc_batch.specs.Log.{log_writes}
use Rattle.uc_live.specs.Going.{GoesOn}
use Rattle.uc_live.specs.LiveOptions.{are_good}
use Rattle.uc_live.specs.Lives.{created}
use Rattle.uc_live.specs.declared.open_error.LiveOpenError.{LiveOpenError}
use Rattle.uc_live.specs.declared.open_error.LiveOpenError.TheVariants.{BadOption, NoRoom}
use Rattle.uc_live.specs.declared.room_error.RoomError.TheVariants.{IdsSpent, RunsClaimed, Memory}
use Rattle.uc_engine.specs.declared.operator_kind.OperatorKind.{OperatorKind}
use Rattle.uc_engine.specs.Engines.{Engined, kind_numbered, meaning_of}
use Rattle.uc_c.specs.declared.c_options.COptions.{COptions}
use Rattle.uc_c.specs.declared.c_options.TheConstants.{OPTIONS_SIZE}
use Rattle.uc_c.specs.declared.status.TheConstants.{OK, HAS_STORE, UNKNOWN_OPERATOR, BAD_SIZE}
use Rattle.uc_c.specs.Numbers.{options_in}
use Rattle.uc_c.specs.Statuses.{OpenSays}
use Rattle.uc_c.specs.Replies.{Names}

-- its options are good, whatever its number
abbrev pub are_fine : COptions → Bool
are_fine c = are_good (options_in c 0)

-- Why a store isn't created: its options aren't valid, or allocation failed.
abbrev pub IsUncreated : COptions → LiveOpenError → Type 0
IsUncreated c BadOption = are_fine c ≡ false
IsUncreated c (NoRoom IdsSpent) = ⊥
IsUncreated c (NoRoom RunsClaimed) = ⊥
IsUncreated c (NoRoom Memory) = Unit {0}

-- Why a store isn't opened: for this, or no id is left for a run of what the log has.
abbrev pub IsUnopened : COptions → LiveOpenError → Type 0
IsUnopened c (NoRoom IdsSpent) = Unit {0}
IsUnopened c error = IsUncreated c error

module _ (status : ℤ) (old new : Option Engined) where
  -- P holds of a store of the operator, which is there; or the status says why not, and nothing has changed
  abbrev pub Puts : (OperatorKind → Engined → Type 0) → (LiveOpenError → Type 0) → COptions → OperatorKind → Type 0
  Puts P why c kind =
      ((status ≡ OK) × (are_fine c ≡ true) × IsSomeAnd new (λ e. (e.kind ≡ kind) × P kind e))
      ⊎ ((new ≡ old) × Names OpenSays status why)

  -- the options' size isn't the one that is known, or no operator has the number
  abbrev pub IsUnknown : ℕ → Type 0
  IsUnknown size = ((status ≡ BAD_SIZE) × (size ≢ OPTIONS_SIZE) × (new ≡ old)) ⊎ ((status ≡ UNKNOWN_OPERATOR) × (new ≡ old))

  -- a store of the operator with the number is put there, if there is none, the size is known, and there is such an
  -- operator
  abbrev pub PutsNumbered : (OperatorKind → Engined → Type 0) → (LiveOpenError → Type 0) → ℕ → COptions → Type 0
  PutsNumbered P why operator c =
      MatchOption old
      (MatchOption (kind_numbered operator) (IsUnknown c.size) (λ kind. IsUnknown c.size ⊎ ((c.size ≡ OPTIONS_SIZE) × Puts P why c kind)))
      (λ _. (status ≡ HAS_STORE) × (new ≡ old))

  -- a store without writes is created, which has the number
  abbrev pub Creates : ℕ → COptions → ℕ → Type 0
  Creates operator c number = PutsNumbered (λ kind e. e.live ≡ created (options_in c number)) (IsUncreated c) operator c

  -- a store is opened that has taken the writes of the log, which has the number
  abbrev pub Opens : ℕ → COptions → ℕ → List ℕ → Type 0
  Opens operator c number log = PutsNumbered
      (λ kind e. GoesOn (meaning_of kind) (created (options_in c number)) e.live (log_writes log).list × (e.live.prepared ≡ []))
      (IsUnopened c) operator c
