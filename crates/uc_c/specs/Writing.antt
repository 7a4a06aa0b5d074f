-- Effects of writes on the handle's store.
use Rattle.std.specs.Prelude.{◌≡◌, ◌⊎◌, ◌≤◌, ◌<◌, [], ℕ, ℤ, List, Option, length}
use Rattle.uc_bytes.specs.declared.op.Op.{Op}
use Rattle.uc_live.specs.Lives.{last}
use Rattle.uc_live.specs.Recording.{IsRecorded}
use Rattle.uc_live.specs.Writing.{IsBatchPrepared, IsBatchWritten, IsWritten, Prepares, Refuses, RefusesBatch, next_batch}
use Rattle.uc_live.specs.declared.write_error.WriteError.{WriteError}
use Rattle.uc_engine.specs.Engines.{Engined, meaning_of}
use Rattle.uc_c.specs.declared.status.TheConstants.{OK, ROOM}
use Rattle.uc_c.specs.Room.{filled}
use Rattle.uc_c.specs.Statuses.{WriteSays}
use Rattle.uc_c.specs.Replies.{Becomes, Names, Tries}

-- The engine went on, took no write, and has nothing prepared.
abbrev pub StaysUnwritten : Engined → Engined → Type 0
StaysUnwritten e e' = (e'.kind ≡ e.kind) × Prepares (meaning_of e.kind) e.live e'.live []

-- The engine took the operation.
abbrev pub Takes : Op → Engined → Engined → Type 0
Takes op e e' = (e'.kind ≡ e.kind) × IsWritten (meaning_of e.kind) op e.live e'.live

-- why the batch that comes next isn't taken
abbrev pub DeclinesBatch : List ℕ → Engined → Engined → WriteError → Type 0
DeclinesBatch batch e e' error = RefusesBatch (next_batch (last e.live) batch) e'.live error × StaysUnwritten e e'

module _ (status : ℤ) (old new : Option Engined) where
  -- the operation is written, or the write fails
  abbrev pub Writes : Op → Type 0
  Writes op = Tries WriteSays status old new (Takes op) (λ e e' error. Refuses op e.live e'.live error × StaysUnwritten e e')

  -- the writes of the batch are written, or the write fails
  abbrev pub WritesBatch : List ℕ → Type 0
  WritesBatch batch = Tries WriteSays status old new
      (λ e e'. (e'.kind ≡ e.kind) × IsBatchWritten (meaning_of e.kind) batch e.live e'.live)
      (DeclinesBatch batch)

-- The writes of the batch are prepared, and its record is in the buffer; or the record doesn't fit, and nothing is prepared.
module _ (status : ℤ) (len : ℕ) (batch room room' : List ℕ) (size' : ℕ) where
  pub record IsTold (e e' : Engined) : Type 0 where
    pub bytes : List ℕ
    pub recorded : IsRecorded (last e.live) len batch bytes
    pub size_is : size' ≡ length bytes
    pub told :
        ((length bytes ≤ length room) × (status ≡ OK) × (room' ≡ filled bytes room)
        × (e'.kind ≡ e.kind) × IsBatchPrepared (meaning_of e.kind) batch e.live e'.live)
        ⊎ ((length room < length bytes) × (status ≡ ROOM) × StaysUnwritten e e')

  -- so it is, or the status says why the batch isn't taken
  abbrev pub PreparesBatch : Option Engined → Option Engined → Type 0
  PreparesBatch old new = Becomes status old new (λ e e'. IsTold e e' ⊎ Names WriteSays status (DeclinesBatch batch e e'))
