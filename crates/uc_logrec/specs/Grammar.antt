-- The meaning of a log, in the words of LevelDB's `log_format.md`: records one after the other, the grammar of their types, and how
-- the log ends if no valid record follows.
use Rattle.std.specs.Prelude.{◌≡◌, ℕ, ◌+◌, ◌-◌, ◌<◌, ◌≤◌, Bool, not, ◌&&◌, ◌||◌, List, [], ◌∷◌, ◌++◌, length, map, take, drop, replicate, flat_map, Option, Some, None, is_some, is_none, slice_index, nat_lt, ◌==◌, if◌then◌else◌}
use Rattle.std.specs.List.{list_all, concat}
use Rattle.uc_logrec.specs.declared.fault.LogFault.TheVariants.{BadLength, BadChecksum, UnsupportedType, MiddleAlone, LastAlone, FullInside, FirstInside}
use Rattle.uc_logrec.specs.declared.ending.Ending.{Ending}
use Rattle.uc_logrec.specs.declared.ending.Ending.TheVariants.{Clean, Torn, Fault}
use Rattle.uc_logrec.specs.declared.kind.Kind.{Kind}
use Rattle.uc_logrec.specs.declared.kind.Kind.TheVariants.{Full, First, Middle, Last}
use Rattle.uc_logrec.specs.Format.{room, header_place, record_text, checksum_of, stored_checksum, stored_length, stored_code}

-- ---- places

-- a record: its kind and its data
abbrev pub LogRecord : Type 0
LogRecord = Kind × List ℕ

-- the first place after a record where the next one may be: a trailer is skipped
abbrev pub next_place : ℕ → LogRecord → ℕ
next_place place found = header_place (place + 7 + length found.1)

-- the bytes from there, of those after the record: a trailer's bytes are not looked at
abbrev pub past_trailer : ℕ → LogRecord → List ℕ → List ℕ
past_trailer place found left = drop (next_place place found - (place + 7 + length found.1)) left

-- The records are one after the other from a place on, each within its block. The rest follows them.
abbrev pub Stand : ℕ → List ℕ → List LogRecord → List ℕ → Type 0
Stand place bytes [] rest = bytes ≡ rest
Stand place bytes (found ∷ records) rest = (left : List ℕ) × (7 + length found.1 ≤ room place) × (bytes ≡ record_text found.0 found.1 ++ left) × Stand (next_place place found) (past_trailer place found left) records rest

-- the place after records that start at a place
abbrev pub place_behind : ℕ → List LogRecord → ℕ
place_behind place [] = place
place_behind place (found ∷ records) = place_behind (next_place place found) records

-- ---- the grammar: (FULL | FIRST MIDDLE* LAST | E)*, where E is a FIRST without data directly before a FULL or FIRST

-- Early writers left an E at a block's end. It is no part of the payload after it.

-- A payload as the log has it: a number of Es, and then a FULL, or the FIRST, the MIDDLEs and the LAST.
pub data Group : Type 0 where
  Whole : ℕ → List ℕ → Group
  Pieces : ℕ → List ℕ → List (List ℕ) → List ℕ → Group

-- `count` Es
abbrev pub empty_firsts : ℕ → List LogRecord
empty_firsts count = replicate count (First, [])

-- a FIRST, and MIDDLEs
abbrev pub begun_records : List ℕ → List (List ℕ) → List LogRecord
begun_records first middles = (First, first) ∷ map (λ fragment. (Middle, fragment)) middles

-- the records of a payload
abbrev pub group_records : Group → List LogRecord
group_records (Whole count payload) = empty_firsts count ++ (Full, payload) ∷ []
group_records (Pieces count first middles last) = empty_firsts count ++ (begun_records first middles ++ (Last, last) ∷ [])

-- the payload: its data, joined
abbrev pub payload_of : Group → List ℕ
payload_of (Whole count payload) = payload
payload_of (Pieces count first middles last) = first ++ concat middles ++ last

-- a sentence of the grammar
abbrev pub sentence : List Group → List LogRecord
sentence groups = flat_map group_records groups

-- records with which a sentence may begin
abbrev pub BeginSentence : List LogRecord → Type 0
BeginSentence records = (more : List LogRecord) × (groups : List Group) × (records ++ more ≡ sentence groups)

-- a payload whose LAST is missing: the number of Es, the FIRST and the MIDDLEs
pub record Unfinished : Type 0 where
  pub dropped : ℕ
  pub first : List ℕ
  pub middles : List (List ℕ)

abbrev pub unfinished_records : Option Unfinished → List LogRecord
unfinished_records None = []
unfinished_records (Some u) = empty_firsts u.dropped ++ begun_records u.first u.middles

-- the records of payloads, then those of the open one
abbrev pub records_of : List Group → Option Unfinished → List LogRecord
records_of groups unfinished = sentence groups ++ unfinished_records unfinished

-- the place of the open payload's FIRST
abbrev pub open_place : List Group → Option Unfinished → Option ℕ
open_place groups None = None
open_place groups (Some u) = Some (place_behind 0 (sentence groups ++ empty_firsts u.dropped))

-- ---- the endings

-- how a log ends if nothing more was written
abbrev pub over_at : Option ℕ → Ending
over_at None = Clean
over_at (Some first) = Torn first

-- how it ends inside a record at a place: a payload that is open is torn at its FIRST
abbrev pub cut_at : Option ℕ → ℕ → Ending
cut_at None place = Torn place
cut_at (Some first) place = Torn first

-- The table of endings, for a place, the bytes from there, and the place of the open payload's FIRST if one is open. A
-- row is a condition and an ending. The first row whose condition holds says how the log ends.
unfoldable pub endings : Option ℕ → ℕ → List ℕ → List (Bool × Ending)
endings open_at place rest =
    let len = stored_length rest in
    let code = stored_code rest in
    -- nothing, or zero bytes alone, to the log's end
    (list_all (λ byte. byte == 0) rest, over_at open_at)
    -- no whole header
    ∷ (nat_lt (length rest) 7, cut_at open_at place)
    -- the data passes the end of the block
    ∷ (nat_lt (room place - 7) len, Fault BadLength place)
    -- the data passes the end of the log
    ∷ (nat_lt (length rest - 7) len, cut_at open_at place)
    ∷ (not (stored_checksum rest == checksum_of code (take len (drop 7 rest))), Fault BadChecksum place)
    -- the type is not 1 to 4
    ∷ (nat_lt code 1 || nat_lt 4 code, Fault UnsupportedType place)
    -- a MIDDLE or a LAST if no payload is open
    ∷ (code == 3 && is_none open_at, Fault MiddleAlone place)
    ∷ (code == 4 && is_none open_at, Fault LastAlone place)
    -- a FULL or a FIRST if one is
    ∷ (code == 1 && is_some open_at, Fault FullInside place)
    ∷ (code == 2 && is_some open_at, Fault FirstInside place)
    ∷ []

-- what the first row whose condition holds says
abbrev pub first_row : List (Bool × Ending) → Option Ending
first_row [] = None
first_row (row ∷ rows) = if row.0 then Some row.1 else first_row rows

-- ---- the meaning of a log

-- The bytes hold these payloads and end like this.
pub record Reads (bytes : List ℕ) (payloads : List (List ℕ)) (ending : Ending) : Type 0 where
  -- the log begins with the records of payloads, and of at most one that is open. The rest follows them
  pub groups : List Group
  pub unfinished : Option Unfinished
  pub rest : List ℕ
  pub stand : Stand 0 bytes (records_of groups unfinished) rest
  -- a sentence may begin with them
  pub begin : BeginSentence (records_of groups unfinished)
  -- and with no longer list of records that is there
  pub longest : (others : List LogRecord) (left : List ℕ) → Stand 0 bytes others left → BeginSentence others → length others ≤ length (records_of groups unfinished)
  -- the payloads are the complete ones
  pub complete : payloads ≡ map payload_of groups
  -- the ending is what the table says of the place after the records
  pub ends : first_row (endings (open_place groups unfinished) (place_behind 0 (records_of groups unfinished)) rest) ≡ Some ending

-- each element is a byte
abbrev pub AreBytes : List ℕ → Type 0
AreBytes bytes = (i : ℕ) → slice_index bytes i < 256

-- Reading the bytes returns these payloads and this ending, and the bytes hold no others.
pub record IsMeaning (bytes : List ℕ) (payloads : List (List ℕ)) (ending : Ending) : Type 0 where
  pub reads : Reads bytes payloads ending
  pub only : (others : List (List ℕ)) (other : Ending) → Reads bytes others other → (others ≡ payloads) × (other ≡ ending)
