-- The layout of a log: LevelDB's `log_format.md`, "block", "trailer" and "record".
use Rattle.std.specs.Prelude.{ℕ, ◌+◌, ◌-◌, ◌%◌, List, [], ◌∷◌, ◌++◌, length, take, drop, slice_index, Option, Some, None, Result, Ok, Err, nat_lt, ◌==◌, if◌then◌else◌}
use Rattle.std.specs.List.{list_all}
use Rattle.std.specs.Int.{w16, w32, to_le_bytes, from_le_bytes}
use Rattle.uc_logrec.specs.Crc.{crc_of}
use Rattle.uc_logrec.specs.Mask.{masked}
use Rattle.uc_logrec.specs.declared.fault.LogFault.TheVariants.{BadLength, BadChecksum, UnsupportedType}
use Rattle.uc_logrec.specs.declared.kind.Kind.{Kind}
use Rattle.uc_logrec.specs.declared.kind.Kind.TheVariants.{Full, First, Middle, Last}
use Rattle.uc_logrec.specs.declared.log_record.Stop.{Stop}
use Rattle.uc_logrec.specs.declared.log_record.Stop.TheVariants.{End, Cut, Bad}

-- the bytes from an offset to the end of its block of 32768
abbrev pub room : ℕ → ℕ
room offset = 32768 - offset % 32768

-- where the next header may begin: a header has seven bytes, and if fewer are left in the block, they are a trailer
abbrev pub header_place : ℕ → ℕ
header_place offset = if nat_lt (room offset) 7 then offset + room offset else offset

-- the types
abbrev pub code_of : Kind → ℕ
code_of Full = 1
code_of First = 2
code_of Middle = 3
code_of Last = 4

abbrev pub kind_of : ℕ → Option Kind
kind_of code = if code == 1 then Some Full else (if code == 2 then Some First else (if code == 3 then Some Middle else (if code == 4 then Some Last else None)))

-- the checksum over the type and the data, as it is stored
abbrev pub checksum_of : ℕ → List ℕ → ℕ
checksum_of code fragment = masked (crc_of (code ∷ fragment))

-- a record: checksum, length, type, data
unfoldable pub record_text : Kind → List ℕ → List ℕ
record_text kind fragment = to_le_bytes w32 (checksum_of (code_of kind) fragment) ++ to_le_bytes w16 (length fragment) ++ code_of kind ∷ fragment

-- a record of this type and this length, if the type is one of the four
abbrev pub typed : Option Kind → ℕ → Result (Kind × ℕ) Stop
typed (Some kind) len = Ok (kind, len)
typed None len = Err (Bad UnsupportedType)

-- the fields of a header
abbrev pub stored_checksum : List ℕ → ℕ
stored_checksum rest = from_le_bytes w32 (slice_index rest 0 ∷ slice_index rest 1 ∷ slice_index rest 2 ∷ slice_index rest 3 ∷ [])

abbrev pub stored_length : List ℕ → ℕ
stored_length rest = from_le_bytes w16 (slice_index rest 4 ∷ slice_index rest 5 ∷ [])

abbrev pub stored_code : List ℕ → ℕ
stored_code rest = slice_index rest 6

-- The record at a header place, if the block has `space` bytes left and the log has the rest: its kind and its number of data
-- bytes, or the first reason why there is none.
unfoldable pub record_of : ℕ → List ℕ → Result (Kind × ℕ) Stop
record_of space rest =
    let len = stored_length rest in
    if list_all (λ byte. byte == 0) rest then Err End
    else (if nat_lt (length rest) 7 then Err Cut
    else (if nat_lt (space - 7) len then Err (Bad BadLength)
    else (if nat_lt (length rest - 7) len then Err Cut
    else (if stored_checksum rest == checksum_of (stored_code rest) (take len (drop 7 rest)) then typed (kind_of (stored_code rest)) len
    else Err (Bad BadChecksum)))))
