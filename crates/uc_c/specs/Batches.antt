-- Batches that C holds, and the effect of their operations on the handle's store.
use Rattle.std.specs.Prelude.{◌≡◌, ◌⊎◌, ◌+◌, ◌^◌, ◌<◌, ◌≤◌, [], ◌∷◌, ◌++◌, ℕ, ℤ, List, Option, Some, None, length}
use Rattle.uc_bytes.specs.declared.op.Op.{Op}
use Rattle.uc_batch.specs.Batch.{numbered}
use Rattle.uc_batch.specs.Gathering.{RefusesOp}
use Rattle.uc_batch.specs.Spelling.{batch_text}
use Rattle.uc_live.specs.Compacting.{HasNoRoom}
use Rattle.uc_live.specs.Going.{GoesOn}
use Rattle.uc_live.specs.LiveFlushes.{HasRoom, HadRoom}
use Rattle.uc_live.specs.Lives.{last}
use Rattle.uc_live.specs.Writing.{Prepares}
use Rattle.uc_engine.specs.Engines.{Engined, meaning_of}
use Rattle.uc_c.specs.declared.status.TheConstants.{OK, SEQUENCES_SPENT}
use Rattle.uc_c.specs.Replies.{Becomes, Names}
use Rattle.uc_c.specs.Statuses.{PushSays, RoomSays}
use Rattle.uc_c.specs.Writing.{IsTold, StaysUnwritten}

-- the operations of a batch that C holds; none if it is zeros
abbrev pub ops_held : Option (List Op) → List Op
ops_held None = []
ops_held (Some ops) = ops

-- The operation is appended; or the status says why not, and the batch is unchanged.
abbrev pub Gathers : ℤ → Option (List Op) → Option (List Op) → Op → Type 0
Gathers status old new op =
    ((status ≡ OK) × (ops_held new ≡ ops_held old ++ op ∷ []))
    ⊎ (Names PushSays status (RefusesOp op (ops_held old)) × (ops_held new ≡ ops_held old))

-- as many sequences are left as there are operations
abbrev pub AreLeft : List Op → Engined → Type 0
AreLeft ops e = 0 < length ops → last e.live + length ops < 2 ^ 56

-- The engine took the operations, with the sequence numbers after the last one.
pub record AreTaken (ops : List Op) (e e' : Engined) : Type 0 where
  pub left : AreLeft ops e
  pub kind : e'.kind ≡ e.kind
  pub goes_on : GoesOn (meaning_of e.kind) e.live e'.live (numbered (last e.live + 1) ops)
  pub none_prepared : e'.live.prepared ≡ []
  pub room : HadRoom e'.live (numbered (last e.live + 1) ops)

-- They wait, with these sequences.
pub record ArePrepared (ops : List Op) (e e' : Engined) : Type 0 where
  pub left : AreLeft ops e
  pub kind : e'.kind ≡ e.kind
  pub prepares : Prepares (meaning_of e.kind) e.live e'.live (numbered (last e.live + 1) ops)
  pub room : HasRoom e'.live

-- The status says that too few sequence numbers are left, or why a run can't be added. No operation is taken.
abbrev pub DeclinesOps : ℤ → List Op → Engined → Engined → Type 0
DeclinesOps status ops e e' =
    StaysUnwritten e e'
    × (((status ≡ SEQUENCES_SPENT) × (2 ^ 56 ≤ last e.live + length ops))
    ⊎ Names RoomSays status (λ error. HasNoRoom error e'.live))

-- the operations are taken, or the status says why not
abbrev pub TakesOps : ℤ → List Op → Engined → Engined → Type 0
TakesOps status ops e e' = ((status ≡ OK) × AreTaken ops e e') ⊎ DeclinesOps status ops e e'

-- so it is with the store, if there is one
abbrev pub WritesOps : ℤ → Option Engined → Option Engined → List Op → Type 0
WritesOps status old new ops = Becomes status old new (TakesOps status ops)

module _ (status : ℤ) (len : ℕ) (ops : List Op) (room room' : List ℕ) (size' : ℕ) where
  -- The operations are prepared, and their record is in the buffer; or it doesn't fit, and nothing is prepared; or the status says
  -- why they aren't taken.
  pub record TellsOps (e e' : Engined) : Type 0 where
    pub tells :
        (IsTold status len (batch_text 0 ops) room room' size' e e' × ((status ≡ OK) → ArePrepared ops e e'))
        ⊎ DeclinesOps status ops e e'

  -- so it is with the store, if there is one
  abbrev pub PreparesOps : Option Engined → Option Engined → Type 0
  PreparesOps old new = Becomes status old new TellsOps
