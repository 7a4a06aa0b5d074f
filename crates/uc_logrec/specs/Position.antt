-- The place of a reader in a log, seen by what is ahead of it.
use Rattle.std.specs.Prelude.{◌≡◌, ◌<◌, ◌≤◌, ℕ, suc, ◌+◌, ◌-◌, List, ◌++◌, length, take, drop, None}
use Rattle.uc_logrec.specs.declared.log_reader.Next.{Next}
use Rattle.uc_logrec.specs.declared.log_reader.Next.TheVariants.{Whole, Joined, Ended}
use Rattle.uc_logrec.specs.Log.{Reading, ended, with_payload, reading_from}

-- how many payloads were read, and what is ahead: the payloads to come, and the ending
pub record Position : Type 0 where
  pub payloads_read : ℕ
  pub ahead : Reading

-- what is read from an offset on, if no payload is open
abbrev pub ahead_at : ℕ → List ℕ → Reading
ahead_at offset left = reading_from (suc (length left)) None offset left

-- This payload is the first of those ahead; the others stay ahead after it.
abbrev pub ComesFirst : List ℕ → Position → Position → Type 0
ComesFirst payload old new = (old.ahead ≡ with_payload payload new.ahead) × (new.payloads_read ≡ old.payloads_read + 1)

-- The next result at a position, and the position after it: the first payload ahead, or the ending if none is ahead. A payload of
-- several pieces is the one joined in the buffer.
abbrev pub Comes : Next → List ℕ → Position → Position → Type 0
Comes (Whole payload) joined old new = ComesFirst payload.now old new
Comes Joined joined old new = ComesFirst joined old new
Comes (Ended ending) joined old new = (old.ahead ≡ ended ending) × (new ≡ old)

-- These bytes are a payload's from one place to another: whatever follows them, the payload is read, and then what follows.
abbrev pub IsTextOf : List ℕ → ℕ → List ℕ → ℕ → Type 0
IsTextOf payload place text after = (more : List ℕ) → ahead_at place (text ++ more) ≡ with_payload payload (ahead_at after more)

-- This payload lies between two places, and these bytes are left at each.
abbrev pub StandsBetween : List ℕ → ℕ → List ℕ → ℕ → List ℕ → Type 0
StandsBetween payload place left after behind = (ahead_at place left ≡ with_payload payload (ahead_at after behind)) × (place < after) × (after + length behind ≡ place + length left) × IsTextOf payload place (take (after - place) left) after

-- The next result from a place, and the place after that payload.
abbrev pub Leads : Next → List ℕ → ℕ → List ℕ → ℕ → List ℕ → Type 0
Leads (Whole payload) joined place left after behind = StandsBetween payload.now place left after behind
Leads Joined joined place left after behind = StandsBetween joined place left after behind
Leads (Ended ending) joined place left after behind = ahead_at place left ≡ ended ending

-- A payload that the log has in one piece is the last of these bytes.
abbrev pub IsLastOf : Next → List ℕ → Type 0
IsLastOf (Whole payload) bytes = payload.now ≡ drop (length bytes - length payload.now) bytes
IsLastOf Joined bytes = Unit {0}
IsLastOf (Ended ending) bytes = Unit {0}

-- ---- in a whole log

-- what is read of a log from an offset on, if a payload may begin there
abbrev pub ahead_in : List ℕ → ℕ → Reading
ahead_in log offset = ahead_at offset (drop offset log)

-- the bytes of a log between two offsets
abbrev pub between : ℕ → ℕ → List ℕ → List ℕ
between offset behind log = take (behind - offset) (drop offset log)

-- This payload lies in the log between two offsets.
pub record LiesIn (payload log : List ℕ) (offset behind : ℕ) : Type 0 where
  -- it is read at the one, and then what is read at the other
  pub comes : ahead_in log offset ≡ with_payload payload (ahead_in log behind)
  pub later : offset < behind
  pub within : behind ≤ length log
  -- and no byte after it matters
  pub alone : IsTextOf payload offset (between offset behind log) behind

-- The next result at an offset of a log, and the offset after that payload. Where the log ends it is the same offset.
abbrev pub LeadsIn : Next → List ℕ → List ℕ → ℕ → ℕ → Type 0
LeadsIn (Whole payload) joined log offset behind = LiesIn payload.now log offset behind
LeadsIn Joined joined log offset behind = LiesIn joined log offset behind
LeadsIn (Ended ending) joined log offset behind = (ahead_in log offset ≡ ended ending) × (behind ≡ offset)
