-- The writes that slots and an arena hold.
use Rattle.std.specs.Prelude.{⊤, ◌≡◌, ℕ, zero, suc, ◌+◌, ◌-◌, ◌*◌, ◌/◌, ◌%◌, ◌^◌, ◌<◌, ◌≤◌, List, [], ◌∷◌, ◌++◌, take, drop, length}
use Rattle.uc_bytes.specs.declared.op_ref.OpKind.{OpKind}
use Rattle.uc_bytes.specs.declared.op_ref.OpKind.TheVariants.{Put, Delete, Merge, DeleteRange}
use Rattle.uc_bytes.specs.declared.write.Write.{Write}
use Rattle.uc_bytes.specs.Borrowed.{op_of}
use Rattle.uc_run_points.specs.Numbers.{number_text, number_from}
use Rattle.uc_run.specs.declared.slot.Slot.{Slot}

-- the number of a kind, below 4
abbrev pub kind_number : OpKind → ℕ
kind_number Put = 0
kind_number Delete = 1
kind_number Merge = 2
kind_number DeleteRange = 3

abbrev pub kind_of : ℕ → OpKind
kind_of zero = Put
kind_of (suc zero) = Delete
kind_of (suc (suc zero)) = Merge
kind_of (suc (suc (suc n))) = DeleteRange

-- the sequence and the kind as one number
abbrev pub trailer_of : ℕ → OpKind → ℕ
trailer_of seq kind = 4 * seq + kind_number kind

-- the bytes of two byte strings: the length of the first, and both
abbrev pub bytes_of : List ℕ → List ℕ → List ℕ
bytes_of first second = number_text (length first) ++ (first ++ second)

-- the write that a trailer encodes with its bytes
abbrev pub write_of : ℕ → List ℕ → Write
write_of trailer bytes =
    let len = number_from bytes in
    record { seq = trailer / 4; op = op_of (kind_of (trailer % 4)) (take len.0 len.1) (drop len.0 len.1) }

-- where the bytes before slots end, in an arena of `room` bytes
abbrev pub end_before : ℕ → List Slot → ℕ
end_before room [] = room
end_before room (s ∷ slots) = s.start

-- the writes of slots, each with the bytes up to the next one's
abbrev pub slot_writes : List ℕ → List Slot → List Write
slot_writes text [] = []
slot_writes text (s ∷ slots) = write_of s.trailer (take (end_before (length text) slots - s.start) (drop s.start text)) ∷ slot_writes text slots

-- each one's bytes end after their start, and the last one's within the arena
abbrev pub AreInOrder : ℕ → List Slot → Type 0
AreInOrder room [] = ⊤
AreInOrder room (s ∷ slots) = (s.start ≤ end_before room slots) × AreInOrder room slots

-- an arena and slots with one more write: its bytes and its slot are at the end
pub record Grows (text grown : List ℕ) (slots more : List Slot) (w : Write) : Type 0 where
  pub kind : OpKind
  pub first : List ℕ
  pub second : List ℕ
  pub bytes : grown ≡ text ++ bytes_of first second
  pub slots_are : more ≡ slots ++ record { trailer = trailer_of w.seq kind; start = length text } ∷ []
  pub fits : length first < 2 ^ 64
  pub op : op_of kind first second ≡ w.op
