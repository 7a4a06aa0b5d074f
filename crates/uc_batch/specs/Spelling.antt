-- The unique encoding that the writer produces for a batch: plain tags and the shortest numbers.
use Rattle.std.specs.Prelude.{ℕ, zero, suc, List, [], ◌∷◌, ◌++◌, length, ◌+◌, ◌/◌, ◌%◌, ◌^◌, ◌<◌, ◌≤◌, nat_lt, All, if◌then◌else◌}
use Rattle.std.specs.List.{flat_map}
use Rattle.std.specs.Int.{w32, w64, to_le_bytes}
use Rattle.uc_bytes.specs.declared.op.Op.{Op}
use Rattle.uc_batch.specs.declared.tag.Tag.TheVariants as tag
use Rattle.uc_batch.specs.Tag.{byte_of}
use Rattle.uc_bytes.specs.declared.op.Op.TheVariants.{Put, Delete, Merge, DeleteRange}

-- a number in one byte and at most `more` others, as few as possible
unfoldable pub varint_text : ℕ → ℕ → List ℕ
varint_text zero n = n ∷ []
varint_text (suc more) n = if nat_lt n 128 then n ∷ [] else (n % 128 + 128) ∷ varint_text more (n / 128)

-- a length and the bytes
abbrev pub string_text : List ℕ → List ℕ
string_text bytes = varint_text 4 (length bytes) ++ bytes

-- an operation's record
abbrev pub op_text : Op → List ℕ
op_text (Delete key) = byte_of tag.Deletion ∷ string_text key
op_text (Put key value) = byte_of tag.Value ∷ (string_text key ++ string_text value)
op_text (Merge key operand) = byte_of tag.Merge ∷ (string_text key ++ string_text operand)
op_text (DeleteRange begin end) = byte_of tag.RangeDeletion ∷ (string_text begin ++ string_text end)

-- a batch of these operations whose first has the sequence `seq`
abbrev pub batch_text : ℕ → List Op → List ℕ
batch_text seq ops = to_le_bytes w64 seq ++ to_le_bytes w32 (length ops) ++ flat_map op_text ops

-- each string of the operation is short enough for its length to fit 32 bits
abbrev pub FitsOp : Op → Type 0
FitsOp (Delete key) = length key < 2 ^ 32
FitsOp (Put key value) = (length key < 2 ^ 32) × (length value < 2 ^ 32)
FitsOp (Merge key operand) = (length key < 2 ^ 32) × (length operand < 2 ^ 32)
FitsOp (DeleteRange begin end) = (length begin < 2 ^ 32) × (length end < 2 ^ 32)

-- the sequences, the count and the strings of a batch fit their fields
pub record FitsBatch (seq : ℕ) (ops : List Op) : Type 0 where
  pub from_one : 1 ≤ seq
  pub begins : seq < 2 ^ 56
  pub ends : seq + length ops ≤ 2 ^ 56
  pub few : length ops < 2 ^ 32
  pub strings : All FitsOp ops
