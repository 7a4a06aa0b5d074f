-- The ends of logs that C keeps: marks, and the batch that tells damage.
use Rattle.std.specs.Prelude.{◌≡◌, ◌⊎◌, ◌<◌, ◌≤◌, ◌+◌, ◌^◌, ℕ, ℤ, Bool, true, false, List, Option, Some, None, length}
use Rattle.uc_log_crash.specs.Marks.{mark_text}
use Rattle.uc_log_crash.specs.Places.{all_places, IsFirst}
use Rattle.uc_c.specs.declared.status.TheConstants.{OK, OUT_OF_MEMORY, ROOM, BAD_PLACE}
use Rattle.uc_c.specs.Room.{filled}

-- whether there is a number is stored, and the number if there is one
abbrev pub IsStored : Option ℕ → Bool → ℕ → Type 0
IsStored None flag number = flag ≡ false
IsStored (Some found) flag number = (flag ≡ true) × (number ≡ found)

module _ (status : ℤ) (log : List ℕ) (end last : ℕ) (told : Bool) (place : ℕ) where
  -- The search is done, and what it found is stored.
  pub record Finds : Type 0 where
    pub found : Option ℕ
    pub there : end ≤ length log
    pub first : IsFirst log end last (all_places log end) found
    pub stored : IsStored found told place
    pub status_is : status ≡ OK

  -- The search is done, an allocation failed, or the place isn't in the log: it is past its end, or no log is so long.
  abbrev pub FindsTold : Type 0
  FindsTold = Finds ⊎ ((status ≡ OUT_OF_MEMORY) ⊎ ((status ≡ BAD_PLACE) × ((length log < end) ⊎ (2 ^ 63 < end + 8))))

module _ (status : ℤ) (unsynced : ℕ) (room room' : List ℕ) (size size' : ℕ) where
  -- The bytes are in the buffer.
  pub record HasMark : Type 0 where
    pub small : unsynced < 2 ^ 63
    pub fits : length (mark_text unsynced) ≤ length room
    pub told : status ≡ OK
    pub written : room' ≡ filled (mark_text unsynced) room
    pub size_is : size' ≡ length (mark_text unsynced)

  -- The bytes don't fit the buffer, and their number is stored.
  pub record LacksMark : Type 0 where
    pub small : unsynced < 2 ^ 63
    pub above : length room < length (mark_text unsynced)
    pub told : status ≡ ROOM
    pub kept : room' ≡ room
    pub size_is : size' ≡ length (mark_text unsynced)

  -- Nothing is stored: the number is greater than a mark tells, or an allocation failed.
  abbrev pub RefusesMark : Type 0
  RefusesMark = (((status ≡ BAD_PLACE) × (2 ^ 63 ≤ unsynced)) ⊎ (status ≡ OUT_OF_MEMORY)) × (room' ≡ room) × (size' ≡ size)

  -- the bytes of a mark are stored, or the reason why not
  abbrev pub LaysMark : Type 0
  LaysMark = HasMark ⊎ (LacksMark ⊎ RefusesMark)
