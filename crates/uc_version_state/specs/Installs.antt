-- The effect of an installed compaction on a version (RocksDB wiki, "Universal Compaction").
use Rattle.std.specs.Prelude.{◌≡◌, ◌≢◌, ℕ, ◌+◌, ◌-◌, ◌^◌, ◌<◌, ◌≤◌, ◌==◌, suc, Bool, true, List, [], ◌∷◌, ◌++◌, Contains, take, drop, length, if◌then◌else◌}
use Rattle.std.specs.List.Sorted.{IsStrictlySortedBy}
use Rattle.std.specs.Ordering.{nat_cmp}
use Rattle.uc_oper.specs.Operation.{Operation}
use Rattle.uc_run_entry.specs.Run.{Contents}
use Rattle.uc_compact.specs.Inputs.{Compaction, high_of}
use Rattle.uc_compact.specs.Output.{output_of}
use Rattle.uc_version_state.specs.Versions.{PlacedRun, Stored, contents_of, ids_of}

-- a compaction's inputs by their ids, the newest first; the keeps that it was made for; whether the oldest run of all is
-- among them; and its output
pub record Install : Type 0 where
  pub ids : List ℕ
  pub keeps : List ℕ
  pub oldest : Bool
  pub output : Contents

-- how many runs come before the one with an id
abbrev pub place_of : ℕ → List PlacedRun → ℕ
place_of id [] = 0
place_of id (p ∷ ps) = if p.id == id then 0 else suc (place_of id ps)

-- neighbouring runs: `count` after the first ones
abbrev pub part_of : ℕ → ℕ → List PlacedRun → List PlacedRun
part_of first count runs = take count (drop first runs)

-- the slot of the newest of some runs; 0 if there is none
abbrev pub slot_of : List PlacedRun → ℕ
slot_of [] = 0
slot_of (p ∷ ps) = p.slot

-- the version after a run replaced neighbouring ones: it gets the next id and the slot of the newest of them, and the
-- other slots become free
abbrev pub replaced : ℕ → ℕ → Contents → Stored → Stored
replaced first count run v = record v {
  runs = take first v.runs ++ record { id = v.next_id; slot = slot_of (part_of first count v.runs); run = run } ∷ drop (first + count) v.runs;
  next_id = v.next_id + 1;
}

abbrev pub newest_id : List ℕ → ℕ
newest_id [] = 0
newest_id (id ∷ ids) = id

-- as many runs as there are ids, from the one with the newest id on
abbrev pub standing : List ℕ → List PlacedRun → List PlacedRun
standing ids runs = part_of (place_of (newest_id ids) runs) (length ids) runs

-- the runs after these
abbrev pub behind : List ℕ → List PlacedRun → List PlacedRun
behind ids runs = drop (place_of (newest_id ids) runs + length ids) runs

-- the place of the inputs: how many runs come before them
abbrev pub place_in : Install → Stored → ℕ
place_in i v = place_of (newest_id i.ids) v.runs

abbrev pub inputs_in : Install → Stored → List PlacedRun
inputs_in i v = standing i.ids v.runs

-- the runs after them
abbrev pub older_in : Install → Stored → List PlacedRun
older_in i v = behind i.ids v.runs

-- what was compacted
abbrev pub compaction_in : Install → Stored → Compaction
compaction_in i v = record { inputs = contents_of (inputs_in i v); keeps = i.keeps; oldest = i.oldest }

-- what a compaction requires of a version: the keeps that it was made for, whether it was made for the oldest run of
-- all, and the greatest sequence of its inputs
pub record Terms : Type 0 where
  pub keeps : List ℕ
  pub oldest : Bool
  pub high : ℕ

abbrev pub terms_of : Compaction → Terms
terms_of c = record { keeps = c.keeps; oldest = c.oldest; high = high_of c.inputs }

-- it was made for every keep below its inputs' greatest sequence
abbrev pub KeepsKnown : List ℕ → Terms → Type 0
KeepsKnown keeps t = (keep : ℕ) → Contains keeps keep → keep < t.high → Contains t.keeps keep

-- no run comes after the inputs of a compaction of the oldest run
abbrev pub NothingBelow : List PlacedRun → Terms → Type 0
NothingBelow older t = t.oldest ≡ true → older ≡ []

-- an id is left for the output: 2^64 - 1 is never given
abbrev pub IdLeft : Stored → Type 0
IdLeft v = v.next_id ≢ 2 ^ 64 - 1

-- When neighbouring runs of a version, with these older ones after them, may be replaced by what they were compacted
-- to.
pub record MayReplace (v : Stored) (older : List PlacedRun) (t : Terms) : Type 0 where
  pub keeps_known : KeepsKnown v.keeps t
  pub oldest_last : NothingBelow older t
  pub id_left : IdLeft v

-- When a compaction may be installed in a version.
pub record MayInstall (m : Operation) (v : Stored) (i : Install) : Type 0 where
  -- the inputs are two runs or more, which are there as neighbours in this order
  pub two : 2 ≤ length i.ids
  pub neighbours : ids_of (inputs_in i v) ≡ i.ids
  pub keeps_rise : IsStrictlySortedBy nat_cmp i.keeps
  -- they may be replaced
  pub may : MayReplace v (older_in i v) (terms_of (compaction_in i v))
  -- the output is what the inputs are compacted to
  pub output_made : i.output ≡ output_of m (compaction_in i v)

-- the version after it
abbrev pub installed : Install → Stored → Stored
installed i v = replaced (place_in i v) (length i.ids) i.output v
