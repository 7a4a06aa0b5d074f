-- The machine and its folder between any two events.
use Rattle.std.proofs.Common.{◌≡◌, ℕ, ◌≤◌, ◌<◌, Bool, true, false, ◌⊎◌, List, [], ◌∷◌, ◌++◌, length, take}
use Rattle.std.specs.Prelude.{⊤, Option, Some, None}
use Rattle.uc_folder.specs.declared.machine.Machine.{Machine}
use Rattle.uc_folder.specs.declared.phases.Writer.{Writer}
use Rattle.uc_folder.specs.declared.phases.Writer.TheVariants.{Making, Founding, Naming, Clearing, SettingAside, Copying, SealingCopy, Replacing, Settling, Ready, Appending, Mending, Syncing, Both, Spoiled, Closing, Failed}
use Rattle.uc_folder.specs.declared.phases.Checkpointer.{Checkpointer}
use Rattle.uc_folder.specs.declared.phases.Checkpointer.TheVariants.{Idle, Writing, Sealing, Renaming, Fixing, RemovingLog, RemovingBase}
use Rattle.uc_folder.specs.Device.{Batch, first_whole, are_whole, File, Entry, Device, first_number, is_there, content, upto}
use Rattle.uc_folder.specs.Worlds.{World, IsPrefixOf, first_of}
use Rattle.uc_folder.proofs.Sound.{IsWhole, IsThere, Sound}

-- the newest base is there, if there is one
abbrev pub Stands : Device → ℕ → Type 0
Stands d base = (base ≡ first_number) ⊎ (is_there (d.bases base).now ≡ true)

-- a file of which a number of these batches are read
abbrev pub IsRead : ℕ → List Batch → Option File → Type 0
IsRead count part None = ⊥
IsRead count part (Some f) = take count (first_whole (f.kept ++ f.waiting)) ≡ take count part

-- an empty file
pub record IsNew (o : Option File) : Type 0 where
  pub file : File
  pub now : o ≡ Some file
  pub kept : file.kept ≡ []
  pub waiting : file.waiting ≡ []
  pub lost : file.lost ≡ []
  pub fresh : file.suspect ≡ false

-- A log to which may be appended, with these batches. As many are on the device as are said to be synced; of the log, no more is firm.
pub record IsOpen (count synced : ℕ) (firm before part : List Batch) (e : Entry) : Type 0 where
  pub file : File
  pub now : e.now ≡ Some file
  pub named : e.before ≡ []
  pub whole : are_whole (file.kept ++ file.waiting) ≡ true
  pub all : first_whole (file.kept ++ file.waiting) ≡ part
  pub fresh : file.suspect ≡ false
  pub lost : file.lost ≡ []
  pub counted : count ≡ length part
  pub marked : synced ≤ length (first_whole file.kept)
  pub told : IsPrefixOf firm (before ++ take synced part)

-- a copy of the log, which isn't named yet
pub record IsCopy (part : List Batch) (f : File) : Type 0 where
  pub whole : are_whole (f.kept ++ f.waiting) ≡ true
  pub all : first_whole (f.kept ++ f.waiting) ≡ part
  pub fresh : f.suspect ≡ false
  pub lost : f.lost ≡ []

-- An opening has read the log, and nothing else has its name. Of its batches a number are kept, and all that is firm is among those.
pub record IsOpening (count : ℕ) (firm before part : List Batch) (e : Entry) : Type 0 where
  pub read : IsRead count part e.now
  pub named : e.before ≡ []
  pub few : count ≤ length part
  pub firmly : IsPrefixOf firm (before ++ take count part)

-- a log that is on the device as it is, with these batches
pub record IsSealed (part : List Batch) (o : Option File) : Type 0 where
  pub file : File
  pub now : o ≡ Some file
  pub is : IsWhole part file
  pub fresh : file.suspect ≡ false

-- then all of it is kept
abbrev pub IfSealed : Bool → ℕ → List Batch → Option File → Type 0
IfSealed true count part o = IsSealed part o × (count ≡ length part)
IfSealed false count part o = ⊤

-- a copy of the batches that are kept has the name of the log, which other files may have had before
pub record IsSettling (count : ℕ) (firm before part : List Batch) (o : Option File) : Type 0 where
  pub file : File
  pub now : o ≡ Some file
  pub is : IsWhole (take count part) file
  pub fresh : file.suspect ≡ false
  pub few : count ≤ length part
  pub firmly : IsPrefixOf firm (before ++ take count part)

-- a batch that is appended to a log
abbrev pub IsAppended : ℕ → ℕ → List Batch → List Batch → List Batch → Batch → Entry → Type 0
IsAppended count synced firm before part batch e = (front : List Batch) × (front ++ batch ∷ [] ≡ part) × IsOpen count synced firm before front e

-- a log in which an append has failed: its first records are those of the batches before that one
pub record IsMendable (count synced : ℕ) (firm before front : List Batch) (e : Entry) : Type 0 where
  pub file : File
  pub now : e.now ≡ Some file
  pub named : e.before ≡ []
  pub fresh : file.suspect ≡ false
  pub lost : file.lost ≡ []
  pub whole : are_whole (take count (file.kept ++ file.waiting)) ≡ true
  pub all : first_whole (take count (file.kept ++ file.waiting)) ≡ front
  pub counted : count ≡ length front
  pub enough : length file.kept ≤ count
  pub marked : synced ≤ length (first_whole file.kept)
  pub few : synced ≤ count
  pub told : IsPrefixOf firm (before ++ take synced front)

-- an append of a batch has failed there
abbrev pub IsSpoiled : ℕ → ℕ → List Batch → List Batch → List Batch → Batch → Entry → Type 0
IsSpoiled count synced firm before part batch e = (front : List Batch) × (front ++ batch ∷ [] ≡ part) × IsMendable count synced firm before front e

abbrev pub FitsWriter : Device → ℕ → ℕ → ℕ → ℕ → List Batch → List Batch → List Batch → Batch → Writer → Type 0
FitsWriter d log count synced base firm before part batch Making = ((d.logs log).now ≡ None) × (part ≡ []) × (count ≡ 0) × (synced ≡ 0) × Stands d base × (base ≤ log)
FitsWriter d log count synced base firm before part batch Founding = IsNew (d.logs log).now × (part ≡ []) × (count ≡ 0) × (synced ≡ 0)
FitsWriter d log count synced base firm before part batch (Naming top sealed) = ⊥
FitsWriter d log count synced base firm before part batch (Clearing k top sealed) = IsOpening count firm before part (d.logs log) × (log < k) × IfSealed sealed count part (d.logs log).now
FitsWriter d log count synced base firm before part batch SettingAside = IsOpening count firm before part (d.logs log)
FitsWriter d log count synced base firm before part batch Copying = IsOpening count firm before part (d.logs log)
FitsWriter d log count synced base firm before part batch SealingCopy = IsOpening count firm before part (d.logs log) × IsCopy (take count part) d.copy
FitsWriter d log count synced base firm before part batch Replacing = IsOpening count firm before part (d.logs log) × IsWhole (take count part) d.copy × (d.copy.suspect ≡ false)
FitsWriter d log count synced base firm before part batch Settling = IsSettling count firm before part (d.logs log).now
FitsWriter d log count synced base firm before part batch Ready = IsOpen count synced firm before part (d.logs log)
FitsWriter d log count synced base firm before part batch Appending = IsAppended count synced firm before part batch (d.logs log)
FitsWriter d log count synced base firm before part batch Mending = IsSpoiled count synced firm before part batch (d.logs log)
FitsWriter d log count synced base firm before part batch (Syncing n) = IsOpen count synced firm before part (d.logs log) × (synced ≤ n) × (n ≤ count)
FitsWriter d log count synced base firm before part batch (Both n) = IsAppended count synced firm before part batch (d.logs log) × (synced ≤ n) × (n ≤ count)
FitsWriter d log count synced base firm before part batch (Spoiled n) = IsSpoiled count synced firm before part batch (d.logs log) × (synced ≤ n) × (n ≤ count)
FitsWriter d log count synced base firm before part batch Closing = IsOpen count synced firm before part (d.logs log)
FitsWriter d log count synced base firm before part batch Failed = IsPrefixOf (take count part) (content (d.logs log).now)

-- a base that may be made: of its log it has batches that are there
pub record Attempt (log base : ℕ) (parts : ℕ → List Batch) (firm : List Batch) (n past : ℕ) : Type 0 where
  pub from : base ≤ n
  pub to : n ≤ log
  pub size : past ≤ length (parts n)
  pub firmly : IsPrefixOf (first_of parts n past) firm

abbrev pub FitsCheckpointer : Device → ℕ → ℕ → ℕ → (ℕ → List Batch) → List Batch → Checkpointer → Type 0
FitsCheckpointer d log base sure parts firm Idle = ⊤
FitsCheckpointer d log base sure parts firm (Writing n past) = Attempt log base parts firm n past
FitsCheckpointer d log base sure parts firm (Sealing n past) = Attempt log base parts firm n past × IsCopy (first_of parts n past) d.partial × (d.partial.past ≡ past)
FitsCheckpointer d log base sure parts firm (Renaming n past) = Attempt log base parts firm n past × IsWhole (first_of parts n past) d.partial × (d.partial.past ≡ past)
FitsCheckpointer d log base sure parts firm (Fixing n past) = Attempt log base parts firm n past × IsThere (d.bases n).now
FitsCheckpointer d log base sure parts firm (RemovingLog k) = (sure ≡ base) × (k < base)
FitsCheckpointer d log base sure parts firm (RemovingBase k) = (sure ≡ base) × (k < base)

-- with the number of a base that each crash leaves, and what is there after each
pub record Holds (d : Device) (m : Machine) (parts : ℕ → List Batch) (batch : Batch) (acked : List Batch) : Type 0 where
  pub sure : ℕ
  pub firm : List Batch
  pub sound : Sound d m.log sure parts firm
  pub acked_is : IsPrefixOf acked firm
  pub under : sure ≤ m.base
  pub writer : FitsWriter d m.log m.count m.synced m.base firm (upto parts m.log) (parts m.log) batch m.writer
  pub checkpointer : FitsCheckpointer d m.log m.base sure parts firm m.checkpointer

abbrev pub Keeps : World → Type 0
Keeps w = Holds w.device w.machine w.parts w.batch w.acked
