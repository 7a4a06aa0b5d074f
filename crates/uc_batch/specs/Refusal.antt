-- Errors of a batch, in terms of the grammar (RocksDB, `write_batch.cc`, and `coding.h` for the numbers).
use Rattle.std.specs.Prelude.{◌≡◌, ◌≢◌, ℕ, zero, suc, ◌+◌, ◌^◌, ◌<◌, ◌≤◌, true, false, List, [], ◌∷◌, ◌++◌, length, Some, None}
use Rattle.std.specs.Int.{w32, w64, to_le_bytes}
use Rattle.uc_bytes.specs.declared.op.Op.{Op}
use Rattle.uc_batch.specs.declared.error.BatchError.{BatchError}
use Rattle.uc_batch.specs.declared.error.BatchError.TheVariants as faults
use Rattle.uc_batch.specs.declared.tag.Form.{Form}
use Rattle.uc_batch.specs.declared.tag.Form.TheVariants as form
use Rattle.uc_batch.specs.declared.tag.Layout.{Layout}
use Rattle.uc_batch.specs.Tag.{layout_at}
use Rattle.uc_batch.specs.Grammar.{Spells, IsString, AreRecords}

-- The bytes are only the beginning of a number of one byte and at most `more` others: each says that another follows.
abbrev pub NumberIsCut : ℕ → List ℕ → Type 0
NumberIsCut more [] = Unit {0}
NumberIsCut zero (b ∷ bs) = ⊥
NumberIsCut (suc more) (b ∷ bs) = (128 ≤ b) × NumberIsCut more bs

-- A number that doesn't fit 32 bits begins there: its first four bytes say that another follows, and its fifth has more
-- than four bits.
abbrev pub NumberIsLong : ℕ → List ℕ → Type 0
NumberIsLong more [] = ⊥
NumberIsLong zero (b ∷ bs) = 16 ≤ b
NumberIsLong (suc more) (b ∷ bs) = (128 ≤ b) × NumberIsLong more bs

-- ---- the fields after a tag

-- the number of a column family, or a byte string with its length before it
pub data Field : Type 0 where
  Family : Field
  Text : Field

abbrev pub texts_of : Form → List Field
texts_of form.Deletion = Text ∷ []
texts_of form.Value = Text ∷ Text ∷ []
texts_of form.Merge = Text ∷ Text ∷ []
texts_of form.LogData = Text ∷ []
texts_of form.Noop = []
texts_of form.RangeDeletion = Text ∷ Text ∷ []

abbrev pub with_family : List Field → List Field
with_family fields = Family ∷ fields

-- the fields of a record, in their order
abbrev pub fields_of : Layout → List Field
fields_of layout = elim layout.has_family [ true ↦ with_family (texts_of layout.form) | false ↦ texts_of layout.form ]

-- the bytes are a field: the default family's number, or a byte string, with numbers in any encoding
abbrev pub IsField : Field → List ℕ → Type 0
IsField Family bytes = Spells 4 bytes 0
IsField Text bytes = (text : List ℕ) × IsString bytes text

-- fields one after the other
abbrev pub AreFields : List Field → List ℕ → Type 0
AreFields [] bytes = bytes ≡ []
AreFields (field ∷ fields) bytes = (front others : List ℕ) × IsField field front × AreFields fields others × (bytes ≡ front ++ others)

-- The fault of a field at `place`, if the batch has these bytes left. The tag of its record is at `start`.
pub data FieldFault : ℕ → ℕ → List ℕ → Field → BatchError → Type 0 where
  -- the batch ends within its number
  number_cut : (start place : ℕ) (bytes : List ℕ) (field : Field) → NumberIsCut 4 bytes → FieldFault start place bytes field (faults.Cut start)
  -- or within the byte string, whose length announces more bytes
  text_cut : (start place : ℕ) (bytes size behind : List ℕ) (n : ℕ) → Spells 4 size n → bytes ≡ size ++ behind → length behind < n → FieldFault start place bytes Text (faults.Cut start)
  -- its number doesn't fit 32 bits
  number_long : (start place : ℕ) (bytes : List ℕ) (field : Field) → NumberIsLong 4 bytes → FieldFault start place bytes field (faults.BadVarint place)
  -- it is the number of another family
  other_family : (start place : ℕ) (bytes number behind : List ℕ) (id : ℕ) → Spells 4 number id → bytes ≡ number ++ behind → id ≢ 0 → FieldFault start place bytes Family (faults.OtherFamily id)

-- The first faulty field of these, with this fault. Those before it are right.
pub record FaultAmong (start place : ℕ) (fields : List Field) (bytes : List ℕ) (fault : BatchError) : Type 0 where
  pub before : List Field
  pub field : Field
  pub after : List Field
  pub front : List ℕ
  pub left : List ℕ
  pub split : fields ≡ before ++ field ∷ after
  pub are_fields : AreFields before front
  pub whole : bytes ≡ front ++ left
  pub there : FieldFault start (place + length front) left field fault

-- The fault of a record whose tag is at `start`, if the batch has these bytes left.
pub data RecordFault : ℕ → List ℕ → BatchError → Type 0 where
  -- no record begins with the tag
  bad_tag : (start tag : ℕ) (rest : List ℕ) → layout_at tag ≡ None → RecordFault start (tag ∷ rest) (faults.BadTag tag start)
  -- one of its fields has a fault
  bad_field : (start tag : ℕ) (rest : List ℕ) (layout : Layout) (fault : BatchError) → layout_at tag ≡ Some layout → FaultAmong start (start + 1) (fields_of layout) rest fault → RecordFault start (tag ∷ rest) fault

-- Of bytes at a place of a batch, the first are records, and the next record has this fault.
pub record StopsAt (place : ℕ) (bytes : List ℕ) (fault : BatchError) : Type 0 where
  pub front : List ℕ
  pub ops : List Op
  pub rest : List ℕ
  pub records : AreRecords front ops
  pub whole : bytes ≡ front ++ rest
  pub there : RecordFault (place + length front) rest fault

-- ---- a batch

-- the sequence and the count of a batch's header, and what follows it
pub record HasHeader (bytes : List ℕ) (seq count : ℕ) (body : List ℕ) : Type 0 where
  pub seq_fits : seq < 2 ^ 64
  pub count_fits : count < 2 ^ 32
  pub whole : bytes ≡ to_le_bytes w64 seq ++ (to_le_bytes w32 count ++ body)

-- the sequences of a batch with operations are above the last one used, and below 2^56
pub record MayFollow (last seq count : ℕ) : Type 0 where
  pub above : 0 < count → last < seq
  pub below : 0 < count → seq + count ≤ 2 ^ 56

-- Why a batch that comes after the sequence number `last` isn't valid, in this order. The records' first fault from the left comes
-- before their count.
pub data IsRefused : ℕ → List ℕ → BatchError → Type 0 where
  too_short : (last : ℕ) (bytes : List ℕ) → length bytes < 12 → IsRefused last bytes faults.TooShort
  sequence_back : (last seq count : ℕ) (bytes body : List ℕ) → HasHeader bytes seq count body → 0 < count → seq ≤ last → IsRefused last bytes (faults.SequenceBack last)
  sequence_too_large : (last seq count : ℕ) (bytes body : List ℕ) → HasHeader bytes seq count body → 0 < count → last < seq → 2 ^ 56 < seq + count → IsRefused last bytes faults.SequenceTooLarge
  faulty : (last seq count : ℕ) (bytes body : List ℕ) (fault : BatchError) → HasHeader bytes seq count body → MayFollow last seq count → StopsAt 12 body fault → IsRefused last bytes fault
  wrong_count : (last seq count : ℕ) (bytes body : List ℕ) (ops : List Op) → HasHeader bytes seq count body → MayFollow last seq count → AreRecords body ops → length ops ≢ count → IsRefused last bytes faults.WrongCount
