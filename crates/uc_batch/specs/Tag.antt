-- The tags of records (RocksDB, `dbformat.h`, `ValueType`), and what follows them (`write_batch.cc`).
use Rattle.std.specs.Prelude.{ℕ, ◌==◌, true, false, Option, Some, None, if◌then◌else◌}
use Rattle.uc_batch.specs.declared.tag.Form.{Form}
use Rattle.uc_batch.specs.declared.tag.Form.TheVariants as form
use Rattle.uc_batch.specs.declared.tag.Layout.{Layout}
use Rattle.uc_batch.specs.declared.tag.Tag.{Tag}
use Rattle.uc_batch.specs.declared.tag.Tag.TheVariants.{Deletion, Value, Merge, LogData, ColumnFamilyDeletion, ColumnFamilyValue, ColumnFamilyMerge, SingleDeletion, ColumnFamilySingleDeletion, Noop, ColumnFamilyRangeDeletion, RangeDeletion}

-- the byte of a tag
abbrev pub byte_of : Tag → ℕ
byte_of Deletion = 0x00
byte_of Value = 0x01
byte_of Merge = 0x02
byte_of LogData = 0x03
byte_of ColumnFamilyDeletion = 0x04
byte_of ColumnFamilyValue = 0x05
byte_of ColumnFamilyMerge = 0x06
byte_of SingleDeletion = 0x07
byte_of ColumnFamilySingleDeletion = 0x08
byte_of Noop = 0x0D
byte_of ColumnFamilyRangeDeletion = 0x0E
byte_of RangeDeletion = 0x0F

-- the tag of a byte; none if no record begins with it
abbrev pub tag_of : ℕ → Option Tag
tag_of byte =
    if byte == 0x00 then Some Deletion
    else if byte == 0x01 then Some Value
    else if byte == 0x02 then Some Merge
    else if byte == 0x03 then Some LogData
    else if byte == 0x04 then Some ColumnFamilyDeletion
    else if byte == 0x05 then Some ColumnFamilyValue
    else if byte == 0x06 then Some ColumnFamilyMerge
    else if byte == 0x07 then Some SingleDeletion
    else if byte == 0x08 then Some ColumnFamilySingleDeletion
    else if byte == 0x0D then Some Noop
    else if byte == 0x0E then Some ColumnFamilyRangeDeletion
    else if byte == 0x0F then Some RangeDeletion
    else None

abbrev plain : Form → Layout
plain f = record { form = f; has_family = false }

abbrev of_family : Form → Layout
of_family f = record { form = f; has_family = true }

-- what a tag announces; a single deletion is read as a deletion
abbrev pub layout_of : Tag → Layout
layout_of Deletion = plain form.Deletion
layout_of Value = plain form.Value
layout_of Merge = plain form.Merge
layout_of LogData = plain form.LogData
layout_of ColumnFamilyDeletion = of_family form.Deletion
layout_of ColumnFamilyValue = of_family form.Value
layout_of ColumnFamilyMerge = of_family form.Merge
layout_of SingleDeletion = plain form.Deletion
layout_of ColumnFamilySingleDeletion = of_family form.Deletion
layout_of Noop = plain form.Noop
layout_of ColumnFamilyRangeDeletion = of_family form.RangeDeletion
layout_of RangeDeletion = plain form.RangeDeletion

abbrev layout_if : Option Tag → Option Layout
layout_if None = None
layout_if (Some tag) = Some (layout_of tag)

-- what the first byte of a record announces
abbrev pub layout_at : ℕ → Option Layout
layout_at byte = layout_if (tag_of byte)
