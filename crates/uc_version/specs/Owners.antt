-- The owner of a store: a version, and the stretches of its runs that are claimed.
use Rattle.std.specs.Prelude.{◌≡◌, ℕ, ◌+◌, ◌≤◌, ◌==◌, true, Bool, ⊤, List, [], ◌∷◌, Option, Some, None, length, replicate}
use Rattle.std.specs.List.{AllByRecursion, flat_map, list_any}
use Rattle.uc_claims.specs.Holding.{AreDistinct}
use Rattle.uc_version_state.specs.declared.options.Options.{Options}
use Rattle.uc_version_state.specs.Options.{are_good}
use Rattle.uc_version_state.specs.Versions.{PlacedRun, Stored, IsVersion, ids_of, slots_of}
use Rattle.uc_version_state.specs.Installs.{part_of, newest_id}
use Rattle.uc_version.specs.declared.held_stretch.HeldStretch.{HeldStretch}
use Rattle.uc_version.specs.declared.held_stretch.TheConstants.{MOST_CLAIMS}

-- a version, how it is compacted, and for each number the claim that has it, if one is held
pub record Owner : Type 0 where
  pub version : Stored
  pub options : Options
  pub claims : List (Option HeldStretch)

-- the runs of a held claim
abbrev pub runs_held : Stored → HeldStretch → List PlacedRun
runs_held v h = part_of h.first h.count v.runs

abbrev pub slots_held : Stored → Option HeldStretch → List ℕ
slots_held v None = []
slots_held v (Some h) = slots_of (runs_held v h)

-- the slots of all claimed runs
abbrev pub claimed_slots : Owner → List ℕ
claimed_slots o = flat_map (slots_held o.version) o.claims

-- whether a claimed run has the slot
abbrev pub is_busy : Owner → ℕ → Bool
is_busy o slot = list_any (λ s. s == slot) (claimed_slots o)

abbrev pub last_id : List ℕ → ℕ
last_id [] = 0
last_id (id ∷ []) = id
last_id (newer ∷ older ∷ ids) = last_id (older ∷ ids)

-- the ids that it notes are those of its newest and its oldest run
abbrev pub NotesItsRuns : Stored → HeldStretch → Type 0
NotesItsRuns v h = (h.newest ≡ newest_id (ids_of (runs_held v h))) × (h.oldest ≡ last_id (ids_of (runs_held v h)))

-- a held stretch has two runs or more, which are there, and which it notes
abbrev pub Stands : Stored → Option HeldStretch → Type 0
Stands v None = ⊤
Stands v (Some h) = (2 ≤ h.count) × (h.first + h.count ≤ length v.runs) × NotesItsRuns v h

-- Invariant of every owner.
pub record IsOwner (o : Owner) : Type 0 where
  pub version : IsVersion o.version
  pub options_good : are_good o.options ≡ true
  pub numbers : length o.claims ≡ MOST_CLAIMS
  pub stand : AllByRecursion (Stands o.version) o.claims
  -- no run is in two claims
  pub apart : AreDistinct (claimed_slots o)

-- an owner that has claimed nothing
abbrev pub unclaimed : Stored → Options → Owner
unclaimed v options = record { version = v; options = options; claims = replicate MOST_CLAIMS None }
