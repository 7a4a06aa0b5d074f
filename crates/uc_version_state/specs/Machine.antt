-- Concurrent compactors, step by step: the whole machine.
--
-- A compactor notes a stretch of neighbouring runs at a pin. It takes the claim words of their slots one by one, and
-- checks that the runs are still in place. It installs what it made of them, and gives the words back one by one.
-- Between two steps of one compactor the others make any number of theirs. Writes are fed, keeps taken and released in
-- between too, by callers that need no claim word (`Courses`).
use Rattle.std.specs.Prelude.{◌≡◌, ℕ, ◌+◌, ◌≤◌, ◌==◌, ◌&&◌, Bool, true, false, ⊤, List, [], ◌∷◌, ◌++◌, Contains, length, take, slice_index, slice_index_or, slice_set, if◌then◌else◌}
use Rattle.std.specs.List.Sorted.{IsStrictlySortedBy}
use Rattle.std.specs.Ordering.{nat_cmp}
use Rattle.uc_oper.specs.Operation.{Operation}
use Rattle.uc_claims.specs.Holding.{without}
use Rattle.uc_compact.specs.Inputs.{Compaction}
use Rattle.uc_compact.specs.Output.{output_of}
use Rattle.uc_version_state.specs.Versions.{PlacedRun, Stored, contents_of, ids_of, slots_of}
use Rattle.uc_version_state.specs.Installs.{Install, MayReplace, terms_of, part_of, standing, behind}
use Rattle.uc_version_state.specs.declared.event.Event.{Event}
use Rattle.uc_version_state.specs.declared.event.Event.TheVariants.{Installed}
use Rattle.uc_version_state.specs.Histories.{History, version_after}

-- ---- what there is

-- a compactor's phase: the runs that it noted, and which of their words it has
pub data Phase : Type 0 where
  Idle : Phase
  -- this number of words is taken, the newest run's first
  Taking : List PlacedRun → ℕ → Phase
  -- all of them are
  Taken : List PlacedRun → Phase
  -- and since then the runs were found in place
  Checked : List PlacedRun → Phase
  -- the slots whose words it still has
  Giving : List ℕ → Phase

-- what happened to the store, a claim word for each slot (1 while somebody has it), and a phase for each compactor
pub record Machine : Type 0 where
  pub history : History
  pub words : List ℕ
  pub phases : List Phase

-- the version that readers see
abbrev pub present : Machine → Stored
present s = version_after s.history

-- the version after the first `seen` events of a history
abbrev pub version_at : ℕ → History → Stored
version_at seen h = version_after (record h { events = take seen h.events })

abbrev pub phase_of : ℕ → Machine → Phase
phase_of c s = slice_index_or s.phases c Idle

-- the slots whose words a compactor has
abbrev pub slots_held : Phase → List ℕ
slots_held Idle = []
slots_held (Taking noted taken) = take taken (slots_of noted)
slots_held (Taken noted) = slots_of noted
slots_held (Checked noted) = slots_of noted
slots_held (Giving left) = left

-- ---- what a compactor does

pub data Action : Type 0 where
  -- notes neighbouring runs of the version after a number of events, the present one or an earlier one: how many runs
  -- come before them, and how many they are
  Pin : ℕ → ℕ → ℕ → Action
  -- tries the next word
  Take : Action
  -- checks whether the noted runs are in the present version
  Check : Action
  -- publishes a run that replaces them
  Publish : Install → Action
  -- abandons the noted runs
  Abandon : Action
  -- gives the word of one slot back
  Give : ℕ → Action

-- whether runs have these ids, in this order
abbrev pub have_ids : List PlacedRun → List ℕ → Bool
have_ids [] [] = true
have_ids (p ∷ ps) (id ∷ ids) = p.id == id && have_ids ps ids
have_ids _ _ = false

-- whether the noted runs are there as neighbours, in order
abbrev pub still_stand : List PlacedRun → Stored → Bool
still_stand noted v = have_ids (standing (ids_of noted) v.runs) (ids_of noted)

-- a stretch of two runs or more of a version that was shown
pub record IsStretch (h : History) (seen first count : ℕ) : Type 0 where
  pub shown : seen ≤ length h.events
  pub two : 2 ≤ count
  pub within : first + count ≤ length (version_at seen h).runs

-- what is compacted of noted runs
abbrev pub compaction_for : List PlacedRun → Install → Compaction
compaction_for noted i = record { inputs = contents_of noted; keeps = i.keeps; oldest = i.oldest }

-- An install for noted runs. It says nothing of their place: that they are in place is proved.
pub record IsMadeFor (m : Operation) (v : Stored) (noted : List PlacedRun) (i : Install) : Type 0 where
  pub ids : i.ids ≡ ids_of noted
  pub keeps_rise : IsStrictlySortedBy nat_cmp i.keeps
  pub may : MayReplace v (behind i.ids v.runs) (terms_of (compaction_for noted i))
  pub output_made : i.output ≡ output_of m (compaction_for noted i)

-- when a compactor in a phase may do something
abbrev pub MayAct : Operation → Machine → Phase → Action → Type 0
MayAct m s Idle (Pin seen first count) = IsStretch s.history seen first count
MayAct m s (Taking noted taken) Take = ⊤
MayAct m s (Taken noted) Check = ⊤
MayAct m s (Taken noted) Abandon = ⊤
MayAct m s (Checked noted) (Publish i) = IsMadeFor m (present s) noted i
MayAct m s (Checked noted) Abandon = ⊤
MayAct m s (Giving left) (Give slot) = Contains left slot
MayAct m s _ _ = ⊥

-- ---- what follows

-- a compactor that has nothing left to give is idle
abbrev pub giving : List ℕ → Phase
giving [] = Idle
giving (slot ∷ slots) = Giving (slot ∷ slots)

abbrev pub enters : ℕ → Phase → Machine → Machine
enters c phase s = record s { phases = slice_set s.phases c phase }

-- the machine after an event: it leaves words and phases as they are
abbrev pub happens : Event → Machine → Machine
happens e s = record s { history = record s.history { events = s.history.events ++ e ∷ [] } }

-- the phase of one that won another word
abbrev pub taking : List PlacedRun → ℕ → Phase
taking noted taken = if taken == length noted then Taken noted else Taking noted taken

-- a word that is 0 is won and becomes 1; at any other the compactor gives back what it won before
abbrev pub tried : ℕ → List PlacedRun → ℕ → Machine → Machine
tried c noted taken s =
    let slot = slice_index (slots_of noted) taken in
    if slice_index s.words slot == 0 then record (enters c (taking noted (taken + 1)) s) { words = slice_set s.words slot 1 }
    else enters c (giving (take taken (slots_of noted))) s

abbrev pub after_action : ℕ → Machine → Phase → Action → Machine
after_action c s Idle (Pin seen first count) = enters c (Taking (part_of first count (version_at seen s.history).runs) 0) s
after_action c s (Taking noted taken) Take = tried c noted taken s
after_action c s (Taken noted) Check = enters c (if still_stand noted (present s) then Checked noted else giving (slots_of noted)) s
after_action c s (Taken noted) Abandon = enters c (giving (slots_of noted)) s
after_action c s (Checked noted) (Publish i) = happens (Installed i) (enters c (giving (slots_of noted)) s)
after_action c s (Checked noted) Abandon = enters c (giving (slots_of noted)) s
after_action c s (Giving left) (Give slot) = record (enters c (giving (without (slot ∷ []) left)) s) { words = slice_set s.words slot 0 }
after_action c s _ _ = s
