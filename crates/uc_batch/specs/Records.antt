-- The records of a batch, from left to right, with the first fault (RocksDB, `write_batch.cc`).
use Rattle.std.specs.Prelude.{ℕ, zero, suc, List, [], ◌∷◌, ◌++◌, length, take, drop, Option, Some, None, option_to_list, Bool, Result, Ok, Err, ◌-◌, ◌==◌, nat_lt, if◌then◌else◌}
use Rattle.uc_bytes.specs.declared.op.Op.{Op}
use Rattle.uc_bytes.specs.declared.op.Op.TheVariants as op
use Rattle.uc_batch.specs.declared.error.BatchError.{BatchError}
use Rattle.uc_batch.specs.declared.error.BatchError.TheVariants.{BadTag, Cut, OtherFamily}
use Rattle.uc_batch.specs.declared.tag.Form.{Form}
use Rattle.uc_batch.specs.declared.tag.Form.TheVariants as form
use Rattle.uc_batch.specs.declared.tag.Layout.{Layout}
use Rattle.uc_batch.specs.Tag.{layout_at}
use Rattle.uc_batch.specs.Reads.{◌>>=◌}
use Rattle.uc_batch.specs.Varint.{varint_from}

-- Everywhere `total` is the length of the batch and `start` the offset of the record's tag. So the rest of the batch is
-- at the offset `total - length rest`.

-- a length and that many bytes
unfoldable pub string_at : ℕ → ℕ → List ℕ → Result (List ℕ × List ℕ) BatchError
string_at total start bytes = do
  n ← varint_from 4 start (total - length bytes) bytes
  if nat_lt (length n.1) n.0 then Err (Cut start) else Ok (take n.0 n.1, drop n.0 n.1)

-- the number of a column family, which is the default one's
unfoldable pub family_at : ℕ → ℕ → List ℕ → Result (List ℕ) BatchError
family_at total start bytes = do
  id ← varint_from 4 start (total - length bytes) bytes
  if id.0 == 0 then Ok id.1 else Err (OtherFamily id.0)

-- two strings
unfoldable pub strings_at : ℕ → ℕ → List ℕ → Result ((List ℕ × List ℕ) × List ℕ) BatchError
strings_at total start bytes = do
  first ← string_at total start bytes
  second ← string_at total start first.1
  Ok ((first.0, second.0), second.1)

-- what follows the tag and the family, and the operation, if it is counted
unfoldable pub body_at : Form → ℕ → ℕ → List ℕ → Result (Option Op × List ℕ) BatchError
body_at form.Deletion total start bytes = do
  key ← string_at total start bytes
  Ok (Some (op.Delete key.0), key.1)
body_at form.Value total start bytes = do
  two ← strings_at total start bytes
  Ok (Some (op.Put two.0.0 two.0.1), two.1)
body_at form.Merge total start bytes = do
  two ← strings_at total start bytes
  Ok (Some (op.Merge two.0.0 two.0.1), two.1)
body_at form.LogData total start bytes = do
  text ← string_at total start bytes
  Ok (None, text.1)
body_at form.Noop total start bytes = Ok (None, bytes)
body_at form.RangeDeletion total start bytes = do
  two ← strings_at total start bytes
  Ok (Some (op.DeleteRange two.0.0 two.0.1), two.1)

-- the family, if the layout has one
unfoldable pub after_family : Bool → ℕ → ℕ → List ℕ → Result (List ℕ) BatchError
after_family has_family total start bytes = if has_family then family_at total start bytes else Ok bytes

-- a record by the layout of its tag
unfoldable pub laid_out : Option Layout → ℕ → ℕ → ℕ → List ℕ → Result (Option Op × List ℕ) BatchError
laid_out None tag total start bytes = Err (BadTag tag start)
laid_out (Some layout) tag total start bytes = do
  rest ← after_family layout.has_family total start bytes
  body_at layout.form total start rest

-- the record at the front, whose tag is there, and what follows it
unfoldable pub record_at : ℕ → List ℕ → Result (Option Op × List ℕ) BatchError
record_at total [] = Ok (None, [])
record_at total (tag ∷ rest) = laid_out (layout_at tag) tag total (total - length (tag ∷ rest)) rest

-- the operations of all the records; `most` is at least the number of records
unfoldable pub records_from : ℕ → ℕ → List ℕ → Result (List Op) BatchError
records_from most total [] = Ok []
records_from zero total (b ∷ bytes) = Ok []
records_from (suc most) total (b ∷ bytes) = do
  first ← record_at total (b ∷ bytes)
  others ← records_from most total first.1
  Ok (option_to_list first.0 ++ others)

abbrev pub operations : ℕ → List ℕ → Result (List Op) BatchError
operations total bytes = records_from (length bytes) total bytes
