-- The encoding of an entry: the length of its key, the length of its value or operand, its trailer, its key, and its value or operand.
use Rattle.std.specs.Prelude.{◌≡◌, ℕ, zero, suc, ◌+◌, ◌*◌, ◌/◌, ◌%◌, ◌^◌, ◌<◌, List, [], ◌∷◌, ◌++◌, length, take, drop}
use Rattle.std.specs.List.{AllByRecursion, flat_map}
use Rattle.uc_run_entry.specs.declared.entry.Entry.{Entry}
use Rattle.uc_run_entry.specs.declared.entry.What.{What}
use Rattle.uc_run_entry.specs.declared.entry.What.TheVariants.{Put, Delete, Merge}
use Rattle.uc_run_entry.specs.Packed.{tagged}
use Rattle.uc_run_points.specs.Numbers.{number_text, number_from}

-- the tag of a change: `ValueType` in RocksDB's `dbformat.h`
abbrev pub tag_of : What → ℕ
tag_of (Put value) = 1
tag_of Delete = 0
tag_of (Merge operand) = 2

abbrev pub text_of : What → List ℕ
text_of (Put value) = value
text_of Delete = []
text_of (Merge operand) = operand

-- the sequence number and the tag as one number, the trailer
abbrev pub trailer_of : Entry → ℕ
trailer_of e = 4 * e.seq + tag_of e.what

unfoldable pub entry_text : Entry → List ℕ
entry_text e =
    number_text (length e.key) ++ number_text (length (text_of e.what)) ++ number_text (trailer_of e) ++ e.key ++ text_of e.what

-- the encodings of entries, one after the other
abbrev pub entries_text : List Entry → List ℕ
entries_text entries = flat_map entry_text entries

-- the entry with this trailer, key, and value or operand
abbrev pub entry_of : ℕ → List ℕ → List ℕ → Entry
entry_of trailer key text = record { key = key; seq = trailer / 4; what = tagged (trailer % 4) text }

-- the entry at the front, and the bytes after it
unfoldable pub entry_from : List ℕ → Entry × List ℕ
entry_from bytes =
    let key_len = number_from bytes in
    let text_len = number_from key_len.1 in
    let trailer = number_from text_len.1 in
    let rest = drop key_len.0 trailer.1 in
    (entry_of trailer.0 (take key_len.0 trailer.1) (take text_len.0 rest), drop text_len.0 rest)

-- the first `count` entries that the bytes encode
unfoldable pub entries_from : ℕ → List ℕ → List Entry
entries_from zero bytes = []
entries_from (suc count) bytes = (entry_from bytes).0 ∷ entries_from count (entry_from bytes).1

-- `count` entries: the first is already decoded, and the others are encoded in the bytes after it
unfoldable pub entries_ahead : ℕ → Entry → List ℕ → List Entry
entries_ahead zero first behind = []
entries_ahead (suc count) first behind = first ∷ entries_from count behind

-- the lengths of an entry, and its trailer, are below 2 ^ 64
pub record Fits (e : Entry) : Type 0 where
  pub key : length e.key < 2 ^ 64
  pub text : length (text_of e.what) < 2 ^ 64
  pub seq : e.seq < 2 ^ 62

-- the bytes are the encoding of `count` entries that fit
pub record AreSpelled (count : ℕ) (bytes : List ℕ) : Type 0 where
  pub spelled : bytes ≡ entries_text (entries_from count bytes)
  pub fits : AllByRecursion Fits (entries_from count bytes)
