-- A walk over the batches of a log, one at a call.
use Rattle.std.specs.Prelude.{◌≡◌, ℕ, ℤ, ◌+◌, ◌<◌, ◌≤◌, ◌⊎◌, List, length, Ok}
use Rattle.uc_bytes.specs.declared.write.Write.{Write}
use Rattle.uc_logrec.specs.Position.{ahead_in, LiesIn}
use Rattle.uc_batch.specs.declared.ended.Ended.{Ended}
use Rattle.uc_batch.specs.Batch.{batch_of}
use Rattle.uc_batch.specs.Position.{log_ahead, nothing_ahead, with_batch}
use Rattle.uc_batch.specs.Rising.{last_of}
use Rattle.uc_batch.specs.WriteLog.{WriteLog}
use Rattle.uc_c.specs.declared.c_ended.CEnded.{CEnded}
use Rattle.uc_c.specs.declared.c_log_place.CLogPlace.{CLogPlace}
use Rattle.uc_c.specs.declared.status.TheConstants.{OK, OUT_OF_MEMORY, ROOM, LOG_ENDS, BAD_PLACE}
use Rattle.uc_c.specs.LogWrites.{writes_bytes}
use Rattle.uc_c.specs.Numbers.{ended_in}
use Rattle.uc_c.specs.Room.{filled}

-- what is ahead of a place in a log: the writes to come, and how far the log is read
abbrev pub ahead_of : List ℕ → CLogPlace → WriteLog
ahead_of log place = log_ahead place.last (place.batches + 1) (ahead_in log place.offset)

-- where a walk begins
abbrev pub start : CLogPlace
start = record { offset = 0; batches = 0; last = 0 }

-- The next payload is a batch of these writes, and the others are ahead of the place after it.
pub record ComesNext (writes : List Write) (log : List ℕ) (place behind : CLogPlace) : Type 0 where
  pub payload : List ℕ
  pub lies : LiesIn payload log place.offset behind.offset
  pub read : batch_of place.last payload ≡ Ok writes
  pub last : behind.last ≡ last_of place.last writes
  pub batches : behind.batches ≡ place.batches + 1
  pub first : ahead_of log place ≡ with_batch writes (ahead_of log behind)

-- No batch is ahead, and the log was read so far.
abbrev pub EndsAt : Ended → List ℕ → CLogPlace → Type 0
EndsAt ended log place = ahead_of log place ≡ nothing_ahead ended

module _ (status : ℤ) (log : List ℕ) (old new : CLogPlace) (room room' : List ℕ) (size count : ℕ) (ended : CEnded) where
  -- The next batch is in the buffer, and the place is after it.
  pub record Goes : Type 0 where
    pub writes : List Write
    pub next : ComesNext writes log old new
    pub told : status ≡ OK
    pub fits : length (writes_bytes writes) ≤ length room
    pub written : room' ≡ filled (writes_bytes writes) room
    pub size_is : size ≡ length (writes_bytes writes)
    pub count_is : count ≡ length writes

  -- The next batch doesn't fit the buffer, and the size that it needs is stored.
  pub record LacksRoom : Type 0 where
    pub writes : List Write
    pub behind : CLogPlace
    pub next : ComesNext writes log old behind
    pub told : status ≡ ROOM
    pub above : length room < length (writes_bytes writes)
    pub size_is : size ≡ length (writes_bytes writes)

  -- No batch is ahead, and how far the log was read is stored.
  pub record Stops : Type 0 where
    pub found : Ended
    pub there : old.offset ≤ length log
    pub ends : EndsAt found log old
    pub told : status ≡ LOG_ENDS
    pub ended_is : ended ≡ ended_in found

  -- Allocation failed, or no walk leads to the place: there are more batches than bytes before it, or it is past the log.
  abbrev pub IsRefused : Type 0
  IsRefused = (status ≡ OUT_OF_MEMORY) ⊎ ((status ≡ BAD_PLACE) × ((old.offset < old.batches) ⊎ (length log < old.offset)))

  -- what a step of a walk does
  abbrev pub Walks : Type 0
  Walks = Goes ⊎ (LacksRoom ⊎ (Stops ⊎ IsRefused))
