-- Jobs: compactions of claimed stretches that are done away from their store.
use Rattle.std.specs.Prelude.{◌≡◌, ◌≢◌, ℕ, Option, Some, None}
use Rattle.uc_oper.specs.Operation.{Operation}
use Rattle.uc_compact.specs.Inputs.{Compaction}
use Rattle.uc_version_state.specs.declared.stretch.Stretch.{Stretch}
use Rattle.uc_version_state.specs.Picks.{picked}
use Rattle.uc_version_state.specs.Versions.{contents_of}
use Rattle.uc_version_compact.specs.Compacting.{compaction_at, size_of_runs}
use Rattle.uc_version_compact.specs.Picking.{candidates_of}
use Rattle.uc_version.specs.declared.job_end.JobEnd.{JobEnd}
use Rattle.uc_version.specs.declared.job_end.JobEnd.TheVariants.{Installed, NotRun, Refused}
use Rattle.uc_version.specs.declared.job_stage.JobStage.{JobStage}
use Rattle.uc_version.specs.declared.job_stage.JobStage.TheVariants.{Taken, Run, Ended}
use Rattle.uc_version.specs.Owners.{Owner, is_busy}
use Rattle.uc_version.specs.Claiming.{Claim, claim_of, claim_refusal, with_claim, without_claim}
use Rattle.uc_version.specs.Installing.{stretch_of, claimed_runs, MayReplace, IsRefused, after_install}

-- what a job has: the claim of a stretch, what is asked of its compaction, of which it keeps the runs, and how far it is
pub record Task : Type 0 where
  pub claim : Claim
  pub compaction : Compaction
  pub stage : JobStage

-- how many bytes its runs have together
abbrev pub input_size : Task → ℕ
input_size task = size_of_runs task.compaction.inputs

-- a run changes a job that waits for one
abbrev pub run_stage : JobStage → JobStage
run_stage Taken = Run
run_stage Run = Run
run_stage Ended = Ended

-- the job after it was run
abbrev pub run : Task → Task
run task = record task { stage = run_stage task.stage }

-- the job after its end: it keeps its runs
abbrev pub ended : Task → Task
ended task = record task { stage = Ended }

-- the stretch that an owner compacts next, if anything is picked
abbrev pub next_stretch : Owner → Option Stretch
next_stretch o = picked o.options (candidates_of o.version (is_busy o))

-- the job of a stretch, which isn't run yet
abbrev pub task_of : Owner → Stretch → Task
task_of o s = record { claim = claim_of o s; compaction = compaction_at o.version s; stage = Taken }

-- The stretch is claimed for a job; or nothing was picked, and nothing changed.
abbrev pub IsStarted : Option Stretch → Option Task → Owner → Owner → Type 0
IsStarted None task old new = (task ≡ None) × (new ≡ old)
IsStarted (Some s) task old new = (claim_refusal old s ≡ None) × (task ≡ Some (task_of old s)) × (new ≡ with_claim old (claim_of old s) s)

-- Its compaction was asked of the runs of its claim.
abbrev pub IsOwn : Owner → Task → Type 0
IsOwn o task = task.compaction.inputs ≡ contents_of (claimed_runs o task.claim)

-- The compaction of the job's runs is the requested one, if it was run.
abbrev pub IsMadeOf : Task → Option Compaction → Type 0
IsMadeOf task None = task.stage ≢ Run
IsMadeOf task (Some made) = (task.stage ≡ Run) × (made ≡ task.compaction)

-- The result of a job: its run is installed and gets the next id; or it wasn't run; or its run can't be installed. In each case its
-- claim is given back.
abbrev pub HasEnded : Operation → Task → Owner → Owner → JobEnd → Type 0
HasEnded m task old new (Installed id) =
    (task.stage ≡ Run) × MayReplace old.version (stretch_of old task.claim) task.compaction × (id ≡ old.version.next_id)
    × (new ≡ after_install m old task.claim task.compaction)
HasEnded m task old new NotRun = (task.stage ≢ Run) × (new ≡ without_claim old task.claim)
HasEnded m task old new (Refused error) =
    (task.stage ≡ Run) × IsRefused old.version (stretch_of old task.claim) task.compaction error × (new ≡ without_claim old task.claim)
