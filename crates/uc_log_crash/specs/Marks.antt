-- Marks: each batch has the number of bytes of its log that were durable when it was written.
use Rattle.std.specs.Prelude.{◌≡◌, ◌≤◌, ◌<◌, ℕ, zero, suc, ◌+◌, ◌-◌, ◌*◌, ◌/◌, ◌%◌, List, [], ◌∷◌, ◌++◌, length, take, drop, Option, Some, None, option_map, nat_lt, nat_le, ◌&&◌, ◌==◌, if◌then◌else◌}
use Rattle.std.specs.Int.{w64, from_le_bytes}
use Rattle.uc_logrec.specs.Position.{LiesIn}

-- A number, seven bits in each byte, the lowest first. All bytes but the last are 128 or more.
unfoldable pub number_in : List ℕ → Option ℕ
number_in [] = None
number_in (b ∷ rest) =
    if length rest == 0 then (if nat_lt b 128 then Some b else None)
    else (if nat_lt b 128 then None else option_map (λ high. (b - 128) + 128 * high) (number_in rest))

-- the least number that needs more than `count` bytes
abbrev pub bound_of : ℕ → ℕ
bound_of zero = 1
bound_of (suc count) = 128 * bound_of count

-- The mark in the records of a batch. It is log data before all others: a 3, the length of its data, and the data, an `s` and a number of
-- at most nine bytes.
unfoldable pub mark_in : List ℕ → Option ℕ
mark_in [] = None
mark_in (tag ∷ []) = None
mark_in (tag ∷ size ∷ []) = None
mark_in (tag ∷ size ∷ kind ∷ rest) =
    if (tag == 3 && kind == 115) && ((nat_le 1 size && nat_le size 10) && nat_le (size - 1) (length rest)) then number_in (take (size - 1) rest) else None

-- The mark of a batch, after its header of twelve bytes: the number of bytes before its record that weren't on the device for certain.
abbrev pub mark_of : List ℕ → Option ℕ
mark_of payload = mark_in (drop 12 payload)

-- the bytes of a number, at most `more` after the first
unfoldable pub number_text : ℕ → ℕ → List ℕ
number_text zero n = n ∷ []
number_text (suc more) n = if nat_lt n 128 then n ∷ [] else ((128 + n % 128) ∷ number_text more (n / 128))

-- the records of a mark
abbrev pub mark_text : ℕ → List ℕ
mark_text n = 3 ∷ suc (length (number_text 8 n)) ∷ 115 ∷ number_text 8 n

-- a batch with a mark before its other records
abbrev pub with_mark : List ℕ → ℕ → List ℕ
with_mark batch n = take 12 batch ++ (mark_text n ++ drop 12 batch)

-- a mark at an offset says that the log was on the device for certain up to a place beyond `end`
abbrev pub SaysBeyond : Option ℕ → ℕ → ℕ → Type 0
SaysBeyond mark end offset = (unsynced : ℕ) × (mark ≡ Some unsynced) × (end + unsynced < offset)

-- the sequence of a batch, at the start of its header
unfoldable pub sequence_of : List ℕ → ℕ
sequence_of payload = from_le_bytes w64 (take 8 payload)

-- A batch at an offset, with a sequence after `last`, says that the log was on the device for certain up to a place beyond `end`.
pub record Tells (log : List ℕ) (end last offset : ℕ) : Type 0 where
  pub payload : List ℕ
  pub after : ℕ
  pub unsynced : ℕ
  pub lies : LiesIn payload log offset after
  pub later : last < sequence_of payload
  pub mark : mark_of payload ≡ Some unsynced
  pub beyond : end + unsynced < offset

-- The marks of a log are true up to an offset: the mark of each batch in it is at most that.
abbrev pub AreTrue : List ℕ → ℕ → Type 0
AreTrue written synced = (payload : List ℕ) (offset after unsynced : ℕ) → LiesIn payload written offset after → mark_of payload ≡ Some unsynced → offset ≤ synced + unsynced

-- The premise. After the synced bytes nothing is shown that passes as a batch with a mark, and with a sequence after `last`, but what was
-- written there.
abbrev pub AreOwn : List ℕ → ℕ → ℕ → List ℕ → Type 0
AreOwn written synced last shown = (payload : List ℕ) (offset after unsynced : ℕ) → synced ≤ offset → LiesIn payload shown offset after
    → last < sequence_of payload → mark_of payload ≡ Some unsynced → LiesIn payload written offset after
