-- A log whose batches are written to a store again, one at a call.
use Rattle.std.specs.Prelude.{◌≡◌, ◌≢◌, ◌⊎◌, ℕ, ℤ, Bool, false, ◌+◌, ◌<◌, ◌≤◌, List, [], length}
use Rattle.uc_bytes.specs.declared.write.Write.{Write}
use Rattle.uc_batch.specs.declared.ended.Ended.{Ended}
use Rattle.uc_live.specs.Compacting.{HasNoRoom}
use Rattle.uc_live.specs.Going.{GoesOn}
use Rattle.uc_live.specs.LiveFlushes.{HadRoom}
use Rattle.uc_live.specs.Lives.{last}
use Rattle.uc_engine.specs.Engines.{Engined, meaning_of}
use Rattle.uc_c.specs.declared.c_ended.CEnded.{CEnded}
use Rattle.uc_c.specs.declared.c_log_place.CLogPlace.{CLogPlace}
use Rattle.uc_c.specs.declared.replaying.Replayed.{Replayed}
use Rattle.uc_c.specs.declared.replaying.Replayed.TheVariants as replayed
use Rattle.uc_c.specs.declared.status.TheConstants.{OK, LOG_ENDS, BAD_PLACE, SEQUENCE_GAP}
use Rattle.uc_c.specs.LogWalk.{ComesNext, EndsAt}
use Rattle.uc_c.specs.Numbers.{ended_in}
use Rattle.uc_c.specs.Replies.{Names}
use Rattle.uc_c.specs.Statuses.{RoomSays}

-- The engine took these writes. Nothing is prepared.
pub record Took (writes : List Write) (e e' : Engined) : Type 0 where
  pub kind : e'.kind ≡ e.kind
  pub goes_on : GoesOn (meaning_of e.kind) e.live e'.live writes
  pub none_prepared : e'.live.prepared ≡ []

-- The engine took no write.
abbrev pub TookNone : Engined → Engined → Type 0
TookNone e e' = (e' ≡ e) ⊎ Took [] e e'

module _ (log : List ℕ) (place : CLogPlace) (may_skip : Bool) (e e' : Engined) where
  -- The next batch was taken, while fewer writes than fill the memtables were prepared, and leads to the place after it. It has the
  -- sequence number after the last one, unless it may skip some.
  pub record IsReplayed (behind : CLogPlace) : Type 0 where
    pub writes : List Write
    pub next : ComesNext writes log place behind
    pub follows : may_skip ≡ false → behind.last ≡ place.last + length writes
    pub took : Took writes e e'
    pub room : HadRoom e'.live writes

  -- The next batch leaves sequences out, and may not.
  pub record LeavesGap : Type 0 where
    pub writes : List Write
    pub behind : CLogPlace
    pub next : ComesNext writes log place behind
    pub gap : behind.last ≢ place.last + length writes
    pub may_not : may_skip ≡ false
    pub same : e' ≡ e

  -- what was done with the next batch
  abbrev pub Replays : Replayed → Type 0
  Replays (replayed.Batch behind) = IsReplayed behind
  Replays replayed.Gap = LeavesGap
  Replays (replayed.Ended ended) = EndsAt ended log place × (e' ≡ e)

module _ (status : ℤ) (log : List ℕ) (old new : CLogPlace) (may_skip : Bool) (ended ended' : CEnded) (e e' : Engined) where
  -- No batch is ahead, and how far the log was read is stored.
  pub record StopsThere : Type 0 where
    pub found : Ended
    pub there : old.offset ≤ length log
    pub ends : EndsAt found log old
    pub told : status ≡ LOG_ENDS
    pub ended_is : ended' ≡ ended_in found

  -- The status of some places that no walk of this store leads to: there are more batches than bytes before the place, it is past
  -- the log, or its last sequence number isn't the store's. A place within a record isn't detected.
  abbrev pub IsElsewhere : Type 0
  IsElsewhere = (status ≡ BAD_PLACE) × ((old.offset < old.batches) ⊎ ((length log < old.offset) ⊎ (old.last ≢ last e.live)))

  -- Why no batch was taken.
  abbrev pub WhyNot : Type 0
  WhyNot = ((status ≡ SEQUENCE_GAP) × LeavesGap log old may_skip e e')
      ⊎ (StopsThere ⊎ (IsElsewhere ⊎ Names RoomSays status (λ error. HasNoRoom error e'.live)))

  -- The next batch is written, and the place is after it; or the place stays, no write is taken, and the status says why.
  abbrev pub ReplaysNext : Type 0
  ReplaysNext = ((status ≡ OK) × IsReplayed log old may_skip e e' new)
      ⊎ ((new ≡ old) × TookNone e e' × WhyNot)
