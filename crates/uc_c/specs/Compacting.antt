-- Effects of flushes, compactions and snapshots on the handle's store.
use Rattle.std.specs.Prelude.{◌≡◌, [], ℕ, ℤ, Bool, Option}
use Rattle.uc_live.specs.Compacting.{next_stretch, HasNoRoom, IsCompacted}
use Rattle.uc_live.specs.Going.{GoesOn}
use Rattle.uc_live.specs.Snapshots.{TakesSnapshot}
use Rattle.uc_live.specs.Writing.{Prepares}
use Rattle.uc_engine.specs.Engines.{Engined, meaning_of}
use Rattle.uc_c.specs.Replies.{Tries}
use Rattle.uc_c.specs.Statuses.{RoomSays}
use Rattle.uc_c.specs.Writing.{StaysUnwritten}

-- The store took no write. Its memtables may have been flushed.
abbrev pub Settles : Engined → Engined → Type 0
Settles e e' = (e'.kind ≡ e.kind) × Prepares (meaning_of e.kind) e.live e'.live e.live.prepared

module _ (status : ℤ) (old new : Option Engined) where
  -- the memtables are flushed, or the status says why not
  abbrev pub Flushes : Type 0
  Flushes = Tries RoomSays status old new
      (λ e e'. StaysUnwritten e e' × (e'.live.gathered ≡ []))
      (λ e e' error. HasNoRoom error e'.live × StaysUnwritten e e')

  -- what is picked next is compacted, if anything is, or the status says why not
  abbrev pub Compacts : Bool → Type 0
  Compacts compacted = Tries RoomSays status old new
      (λ e e'. (e'.kind ≡ e.kind) × IsCompacted (meaning_of e.kind) (next_stretch e.live) compacted e.live e'.live
      × GoesOn (meaning_of e.kind) e.live e'.live [])
      (λ e e' error. HasNoRoom error e.live × (e' ≡ e))

  -- a snapshot is taken at the last sequence, or the status says why not
  abbrev pub TakesOne : ℕ → Type 0
  TakesOne seq = Tries RoomSays status old new
      (λ e e'. (e'.kind ≡ e.kind) × TakesSnapshot (meaning_of e.kind) e.live e'.live seq)
      (λ e e' error. HasNoRoom error e'.live × StaysUnwritten e e')
