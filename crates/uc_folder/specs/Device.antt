-- The device below a directory: its files and names, the effect of each operation on them, and the state that a crash leaves.
use Rattle.std.specs.Prelude.{ℕ, zero, suc, Bool, true, false, not, ◌&&◌, ◌||◌, List, [], ◌∷◌, ◌++◌, length, take, drop, Option, Some, None, slice_index_or, nat_lt, ◌==◌, max, if◌then◌else◌}

-- a batch, as its bytes
abbrev pub Batch : Type 0
Batch = List ℕ

-- A record of a log. A whole one has a batch, and a mark: the number of records of its log that were durable when it was written. A
-- torn one is there in part, or as zeros, or as older bytes.
pub data Record : Type 0 where
  Whole : Batch → ℕ → Record
  Torn : Record

-- A file: the durable records, and those that wait for a sync. It is suspect once a sync of it failed: then the waiting records can
-- still be read, but no sync makes them durable. If that was the sync of a cut, the records that were cut off are lost: they can't be
-- read, but a crash may bring them back. A base has, besides the logs before its number, the first `past` batches of the
-- log of its number.
pub record File : Type 0 where
  pub kept : List Record
  pub waiting : List Record
  pub lost : List Record
  pub suspect : Bool
  pub past : ℕ

-- the file of a name, and the files that it may stand for after a crash, since the last sync of the names
pub record Entry : Type 0 where
  pub now : Option File
  pub before : List (Option File)

-- A directory: the logs and bases by their numbers, two files with temporary names, the copy of a log and a base that is being
-- written, and a number that no log or base exceeds.
pub record Device : Type 0 where
  pub logs : ℕ → Entry
  pub bases : ℕ → Entry
  pub copy : File
  pub partial : File
  pub names : ℕ

-- the first number of a log
abbrev pub first_number : ℕ
first_number = 1

-- ---- reading

-- The batches that are read: those before the first record that isn't whole. Records after it aren't read.
abbrev pub first_whole : List Record → List Batch
first_whole [] = []
first_whole (Whole b mark ∷ rs) = b ∷ first_whole rs
first_whole (Torn ∷ rs) = []

-- A reader that skips torn records: from a place on it reads those whose sequence number is the next one. A record's sequence
-- number is its place.
abbrev pub read_by_sequence : ℕ → ℕ → List Record → List Batch
read_by_sequence next place [] = []
read_by_sequence next place (Whole b mark ∷ rs) =
    if place == next then b ∷ read_by_sequence (suc next) (suc place) rs else read_by_sequence next (suc place) rs
read_by_sequence next place (Torn ∷ rs) = read_by_sequence next (suc place) rs

-- the records of these batches
abbrev pub whole_part : List Record → List Record
whole_part [] = []
whole_part (Whole b mark ∷ rs) = Whole b mark ∷ whole_part rs
whole_part (Torn ∷ rs) = []

-- whether no record is torn
abbrev pub are_whole : List Record → Bool
are_whole [] = true
are_whole (Whole b mark ∷ rs) = are_whole rs
are_whole (Torn ∷ rs) = false

-- whether a record says that more than a number of records were durable
abbrev pub tell_more : ℕ → List Record → Bool
tell_more n [] = false
tell_more n (Whole b mark ∷ rs) = nat_lt n mark || tell_more n rs
tell_more n (Torn ∷ rs) = tell_more n rs

-- Damage, which no crash leaves: the first record that isn't whole was durable, as another record says.
abbrev pub are_damaged : List Record → Bool
are_damaged rs = not (are_whole rs) && tell_more (length (first_whole rs)) rs

abbrev pub records_of : Option File → List Record
records_of None = []
records_of (Some f) = f.kept ++ f.waiting

abbrev pub content : Option File → List Batch
content o = first_whole (records_of o)

abbrev pub are_none : List Record → Bool
are_none [] = true
are_none (r ∷ rs) = false

-- whether records of a file are lost
abbrev pub is_cut : Option File → Bool
is_cut None = false
is_cut (Some f) = not (are_none f.lost)

-- whether a name stands for a file
abbrev pub is_there : Option File → Bool
is_there None = false
is_there (Some f) = true

abbrev pub is_empty : List Batch → Bool
is_empty [] = true
is_empty (b ∷ bs) = false

-- whether a log has a batch
abbrev pub is_used : Option File → Bool
is_used o = not (is_empty (content o))

-- the highest number up to one that passes, or 0
abbrev pub highest : (ℕ → Bool) → ℕ → ℕ
highest passes zero = zero
highest passes (suc n) = if passes (suc n) then suc n else highest passes n

-- the number of the newest base, or that of the first log if there is none
abbrev pub newest_base : Device → ℕ
newest_base d = max first_number (highest (λ n. is_there (d.bases n).now) d.names)

-- the current log: the last one that has a batch, and none before the base's
abbrev pub last_log : Device → ℕ
last_log d = max (newest_base d) (highest (λ n. is_used (d.logs n).now) d.names)

-- the batches of the numbers below one
abbrev pub upto : (ℕ → List Batch) → ℕ → List Batch
upto parts zero = []
upto parts (suc n) = upto parts n ++ parts n

-- the number of batches that a base has of the log of its number
abbrev pub past_of : Option File → ℕ
past_of None = 0
past_of (Some f) = f.past

-- the batches of a log that the newest base doesn't have
abbrev pub after_base : Device → ℕ → List Batch
after_base d k =
    if nat_lt k (newest_base d) then []
    else (if k == newest_base d then drop (past_of (d.bases k).now) (content (d.logs k).now) else content (d.logs k).now)

-- the batches that opening reads: those of the newest base, and of the logs from its number on
abbrev pub recovered : Device → List Batch
recovered d = content (d.bases (newest_base d)).now ++ upto (after_base d) (suc (last_log d))

-- ---- a crash

-- The choice of a crash for a name: the file that remains of those that it may stand for; the number of its waiting and lost records
-- that remain, and which of those are whole.
pub record Keep : Type 0 where
  pub which : ℕ
  pub count : ℕ
  pub whole : ℕ → Bool

-- any of these records remain whole, and the others are torn
abbrev pub left_of : (ℕ → Bool) → List Record → List Record
left_of whole [] = []
left_of whole (r ∷ rs) = (if whole 0 then r else Torn) ∷ left_of (λ k. whole (suc k)) rs

abbrev pub crashed_file : Keep → File → File
crashed_file keep f = record {
  kept = f.kept ++ left_of keep.whole (take keep.count (f.waiting ++ f.lost));
  waiting = [];
  lost = [];
  suspect = false;
  past = f.past;
}

abbrev pub crashed_name : Keep → Option File → Option File
crashed_name keep None = None
crashed_name keep (Some f) = Some (crashed_file keep f)

abbrev pub crashed_entry : Keep → Entry → Entry
crashed_entry keep e = record { now = crashed_name keep (slice_index_or (e.now ∷ e.before) keep.which e.now); before = [] }

abbrev pub empty_file : File
empty_file = record { kept = []; waiting = []; lost = []; suspect = false; past = 0 }

-- the directory after a crash that keeps this of each log and of each base
abbrev pub crashed : (ℕ → Keep) → (ℕ → Keep) → Device → Device
crashed logs bases d = record {
  logs = λ k. crashed_entry (logs k) (d.logs k);
  bases = λ k. crashed_entry (bases k) (d.bases k);
  copy = empty_file;
  partial = empty_file;
  names = d.names;
}

-- ---- operations on a file

abbrev pub appended : Record → File → File
appended r f = record f { waiting = f.waiting ++ r ∷ [] }

-- A sync that succeeds. At least the records that were there when it began are durable then.
abbrev pub synced : ℕ → File → File
synced n f =
    if f.suspect then f
    else record f {
      kept = take (max n (length f.kept)) (f.kept ++ f.waiting);
      waiting = drop (max n (length f.kept)) (f.kept ++ f.waiting);
    }

-- The records after a number of them are cut off, and the others are synced.
abbrev pub cut : ℕ → File → File
cut n f =
    if f.suspect then f
    else record f { kept = take (max n (length f.kept)) (f.kept ++ f.waiting); waiting = []; lost = [] }

abbrev pub suspected : File → File
suspected f = record f { suspect = true }

-- A cut of which only the sync fails. The premise: if it leaves no record, it is done on the device too.
abbrev pub half_cut : ℕ → File → File
half_cut n f =
    if f.suspect || n == 0 then suspected (cut n f)
    else record f {
      waiting = drop (length f.kept) (take (max n (length f.kept)) (f.kept ++ f.waiting));
      lost = drop (max n (length f.kept)) (f.kept ++ f.waiting);
      suspect = true;
    }

-- all of a file with a temporary name is durable
abbrev pub sealed : File → File
sealed f = record f { kept = f.kept ++ f.waiting; waiting = [] }

-- a new file with the first records of another one that can be read
abbrev pub copied : ℕ → Option File → File
copied n o = record { kept = []; waiting = take n (whole_part (records_of o)); lost = []; suspect = false; past = 0 }

-- the records of rows
abbrev pub rows_of : List Batch → List Record
rows_of [] = []
rows_of (b ∷ bs) = Whole b 0 ∷ rows_of bs

-- ---- operations on names

-- a map that has this at one number
abbrev pub at : {A : Type 0} → ℕ → A → (ℕ → A) → ℕ → A
at n x f k = if k == n then x else f k

abbrev pub changed_name : (File → File) → Option File → Option File
changed_name change None = None
changed_name change (Some f) = Some (change f)

-- the file of a name is changed
abbrev pub changed : (File → File) → Entry → Entry
changed change e = record e { now = changed_name change e.now }

-- the name stands for something else, or for nothing
abbrev pub stands_for : Option File → Entry → Entry
stands_for o e = record { now = o; before = e.now ∷ e.before }

-- the name is durable
abbrev pub named : Entry → Entry
named e = record e { before = [] }

abbrev pub change_log : ℕ → (File → File) → Device → Device
change_log n change d = record d { logs = at n (changed change (d.logs n)) d.logs }

-- the name of a log stands for another file
abbrev pub name_log : ℕ → Option File → Device → Device
name_log n o d = record d { logs = at n (stands_for o (d.logs n)) d.logs; names = max d.names n }

abbrev pub name_base : ℕ → Option File → Device → Device
name_base n o d = record d { bases = at n (stands_for o (d.bases n)) d.bases }

abbrev pub sync_names : Device → Device
sync_names d = record d { logs = λ k. named (d.logs k); bases = λ k. named (d.bases k) }

abbrev pub write_copy : File → Device → Device
write_copy f d = record d { copy = f }

abbrev pub write_partial : File → Device → Device
write_partial f d = record d { partial = f }
