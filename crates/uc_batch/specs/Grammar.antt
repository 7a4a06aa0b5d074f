-- Grammar of batches: the operations that bytes encode. It is a relation, since a number has several encodings and some records
-- aren't counted (RocksDB, `write_batch.cc`, and `coding.h` for the numbers).
use Rattle.std.specs.Prelude.{◌≡◌, ℕ, zero, suc, ◌+◌, ◌*◌, ◌^◌, ◌<◌, ◌≤◌, ◌⊎◌, Bool, true, false, List, [], ◌∷◌, ◌++◌, length, Option, Some, None, option_to_list}
use Rattle.std.specs.List.{flat_map, AllByRecursion}
use Rattle.std.specs.Int.{w32, w64, to_le_bytes}
use Rattle.uc_bytes.specs.declared.op.Op.{Op}
use Rattle.uc_bytes.specs.declared.op.Op.TheVariants as op
use Rattle.uc_bytes.specs.declared.write.Write.{Write}
use Rattle.uc_batch.specs.declared.tag.Form.{Form}
use Rattle.uc_batch.specs.declared.tag.Form.TheVariants as form
use Rattle.uc_batch.specs.declared.tag.Layout.{Layout}
use Rattle.uc_batch.specs.Tag.{layout_at}
use Rattle.uc_batch.specs.Batch.{numbered}

-- The bytes, one and at most `more` others, encode n: each has seven bits, low ones first, and the high bit says that another
-- follows. The last of five has four bits.
abbrev pub Spells : ℕ → List ℕ → ℕ → Type 0
Spells more [] n = ⊥
Spells zero (b ∷ bs) n = (b < 16) × (bs ≡ []) × (n ≡ b)
Spells (suc more) (b ∷ bs) n = ((b < 128) × (bs ≡ []) × (n ≡ b)) ⊎ ((high : ℕ) × (128 ≤ b) × Spells more bs high × (n + 128 ≡ b + 128 * high))

-- a length, in any encoding, and that many bytes
abbrev pub IsString : List ℕ → List ℕ → Type 0
IsString bytes text = (size : List ℕ) × Spells 4 size (length text) × (bytes ≡ size ++ text)

-- two strings
abbrev pub AreStrings : List ℕ → List ℕ → List ℕ → Type 0
AreStrings bytes a b = (x y : List ℕ) × IsString x a × IsString y b × (bytes ≡ x ++ y)

-- the default family's number in any encoding, or nothing if there is no family
abbrev pub IsFamily : Bool → List ℕ → Type 0
IsFamily true bytes = Spells 4 bytes 0
IsFamily false bytes = bytes ≡ []

-- what follows the tag and the family, and the operation that it counts as, if any
abbrev pub IsBody : Form → List ℕ → Option Op → Type 0
IsBody form.Deletion bytes o = (key : List ℕ) × IsString bytes key × (o ≡ Some (op.Delete key))
IsBody form.Value bytes o = (key value : List ℕ) × AreStrings bytes key value × (o ≡ Some (op.Put key value))
IsBody form.Merge bytes o = (key operand : List ℕ) × AreStrings bytes key operand × (o ≡ Some (op.Merge key operand))
IsBody form.LogData bytes o = (text : List ℕ) × IsString bytes text × (o ≡ None)
IsBody form.Noop bytes o = (bytes ≡ []) × (o ≡ None)
IsBody form.RangeDeletion bytes o = (begin end : List ℕ) × AreStrings bytes begin end × (o ≡ Some (op.DeleteRange begin end))

-- the parts of a record after a tag
pub record HasParts (tag : ℕ) (bytes : List ℕ) (o : Option Op) : Type 0 where
  pub layout : Layout
  pub family : List ℕ
  pub body : List ℕ
  pub announced : layout_at tag ≡ Some layout
  pub is_family : IsFamily layout.has_family family
  pub is_body : IsBody layout.form body o
  pub parts : bytes ≡ family ++ body

-- a record, and the operation that it counts as, if any
abbrev pub IsRecord : List ℕ → Option Op → Type 0
IsRecord [] o = ⊥
IsRecord (tag ∷ bytes) o = HasParts tag bytes o

-- records one after the other, and the operations that they count as
pub record AreRecords (bytes : List ℕ) (ops : List Op) : Type 0 where
  pub records : List (List ℕ × Option Op)
  pub each : AllByRecursion (λ r. IsRecord r.0 r.1) records
  pub whole : bytes ≡ flat_map (λ r. r.0) records
  pub counted : ops ≡ flat_map (λ r. option_to_list r.1) records

-- a batch: its sequence, the count that its header says, and its operations
pub record IsBatch (bytes : List ℕ) (seq count : ℕ) (ops : List Op) : Type 0 where
  pub body : List ℕ
  pub seq_fits : seq < 2 ^ 64
  pub count_fits : count < 2 ^ 32
  pub whole : bytes ≡ to_le_bytes w64 seq ++ (to_le_bytes w32 count ++ body)
  pub records : AreRecords body ops

-- The batch is accepted after the sequence `last`, with these writes. Its count is right. If it has operations, its
-- sequence is above `last` and that of the last one is below 2^56.
pub record Accepts (last : ℕ) (bytes : List ℕ) (writes : List Write) : Type 0 where
  pub seq : ℕ
  pub count : ℕ
  pub ops : List Op
  pub is_batch : IsBatch bytes seq count ops
  pub right_count : length ops ≡ count
  pub above : 0 < count → last < seq
  pub below : 0 < count → seq + count ≤ 2 ^ 56
  pub numbers : writes ≡ numbered seq ops
