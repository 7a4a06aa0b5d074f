-- Steps of any number of compactors, and of others that feed, keep and release, one after the other, from an opening on.
use Rattle.std.specs.Prelude.{◌≡◌, ℕ, ◌<◌, ◌≤◌, ◌+◌, ◌⊎◌, ⊤, List, [], ◌∷◌, ◌++◌, length, map, fold, replicate}
use Rattle.std.specs.List.{AllByRecursion}
use Rattle.uc_oper.specs.Operation.{Operation, IsLawful}
use Rattle.uc_bytes.specs.declared.write.Write.{Write}
use Rattle.uc_claims.specs.declared.table.TheConstants.{MOST_SLOTS}
use Rattle.uc_version_state.specs.Openings.{Opening, MayOpen, opened}
use Rattle.uc_version_state.specs.Installs.{part_of}
use Rattle.uc_version_state.specs.declared.stretch.Stretch.{Stretch}
use Rattle.uc_version_state.specs.Versions.{PlacedRun}
use Rattle.uc_version_state.specs.declared.event.Event.{Event}
use Rattle.uc_version_state.specs.declared.event.Event.TheVariants.{Installed, Flushed, Kept, Released}
use Rattle.uc_version_state.specs.Histories.{MayHappen, IsLegal}
use Rattle.uc_version_state.specs.Machine.{Idle, Checked, Machine, Action, MayAct, present, phase_of, happens, after_action}

-- One step: an action of the compactor with a number, or one event that any caller makes, without a claim word.
pub data Step : Type 0 where
  Acts : ℕ → Action → Step
  -- writes are fed
  Flush : List Write → Step
  -- the last sequence becomes a keep
  Keep : Step
  -- a keep is one no more
  Release : ℕ → Step

abbrev pub MayStep : Operation → Machine → Step → Type 0
MayStep m s (Acts c action) = (c < length s.phases) × MayAct m s (phase_of c s) action
MayStep m s (Flush ws) = MayHappen m (present s) (Flushed ws)
MayStep m s Keep = MayHappen m (present s) Kept
MayStep m s (Release seq) = MayHappen m (present s) (Released seq)

abbrev pub after_step : Machine → Step → Machine
after_step s (Acts c action) = after_action c s (phase_of c s) action
after_step s (Flush ws) = happens (Flushed ws) s
after_step s Keep = happens Kept s
after_step s (Release seq) = happens (Released seq) s

-- an opening, how many compactors there are, and the steps since, the first step first
pub record Course : Type 0 where
  pub opening : Opening
  pub compactors : ℕ
  pub steps : List Step

-- every word is free, and every compactor is idle
abbrev pub started : Opening → ℕ → Machine
started o compactors = record {
  history = record { opening = o; events = [] };
  words = replicate MOST_SLOTS 0;
  phases = replicate compactors Idle;
}

-- steps that may be made one after the other
abbrev pub MayCome : Operation → Machine → List Step → Type 0
MayCome m s [] = ⊤
MayCome m s (step ∷ steps) = MayStep m s step × MayCome m (after_step s step) steps

-- the store may open like this, and each step may be made after those before it
pub record IsPossible (m : Operation) (course : Course) : Type 0 where
  pub opens : MayOpen course.opening
  pub come : MayCome m (started course.opening course.compactors) course.steps

-- the machine after it
abbrev pub machine_after : Course → Machine
machine_after course = fold after_step (started course.opening course.compactors) course.steps

-- the events of callers that need no claim word
abbrev pub NeedsNoWord : Event → Type 0
NeedsNoWord (Installed i) = ⊥
NeedsNoWord _ = ⊤

-- a course of a compactor for each of these stretches
abbrev pub course_of : Opening → List (List PlacedRun) → List Step → Course
course_of o noted steps = record { opening = o; compactors = length noted; steps = steps }

-- A course of a compactor for each of these stretches. Before anything happens all of them have looked, each found its
-- stretch in place, and after the course just these events have happened.
pub record LookThen (m : Operation) (o : Opening) (noted : List (List PlacedRun)) (events : List Event) : Type 0 where
  pub looking : List Step
  pub rest : List Step
  pub checked : (machine_after (course_of o noted looking)).phases ≡ map (λ ps. Checked ps) noted
  pub nothing_yet : (machine_after (course_of o noted looking)).history.events ≡ []
  pub possible : IsPossible m (course_of o noted (looking ++ rest))
  pub happened : (machine_after (course_of o noted (looking ++ rest))).history.events ≡ events

-- the runs of a stretch of an opening
abbrev pub noted_at : Opening → Stretch → List PlacedRun
noted_at o s = part_of s.first s.count (opened o).runs

-- Two stretches of an opening, of two runs or more, that share none, and concurrent events, which need no claim word.
pub record LookApart (m : Operation) (o : Opening) (s t : Stretch) (meanwhile : List Event) : Type 0 where
  pub lawful : IsLawful m
  pub legal : IsLegal m (record { opening = o; events = meanwhile })
  pub free : AllByRecursion NeedsNoWord meanwhile
  pub two : 2 ≤ s.count
  pub within : s.first + s.count ≤ length (opened o).runs
  pub two_more : 2 ≤ t.count
  pub more_within : t.first + t.count ≤ length (opened o).runs
  pub apart : (s.first + s.count ≤ t.first) ⊎ (t.first + t.count ≤ s.first)
