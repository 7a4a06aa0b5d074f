-- Jobs of a live store: compactions of its runs that are done away from it.
use Rattle.std.specs.Prelude.{◌≡◌, ◌≢◌, true, List, Option, fold}
use Rattle.uc_oper.specs.Operation.{Operation}
use Rattle.uc_version_state.specs.declared.event.Event.{Event}
use Rattle.uc_version_state.specs.Histories.{MayFollow, after}
use Rattle.uc_version.specs.declared.job_end.JobEnd.{JobEnd}
use Rattle.uc_version.specs.declared.job_stage.JobStage.TheVariants.{Ended}
use Rattle.uc_version.specs.Owners.{Owner, IsOwner}
use Rattle.uc_version.specs.Claiming.{is_held}
use Rattle.uc_version.specs.Installing.{stretch_of, claimed_runs, compaction_of}
use Rattle.uc_version.specs.Jobs.{Task, IsStarted, HasEnded}
use Rattle.uc_live.specs.Lives.{Live, owner_in}
use Rattle.uc_live.specs.Compacting.{next_stretch}

-- The stretch that is picked next is claimed for a job, and nothing else changes; or nothing is picked.
abbrev pub StartsJob : Option Task → Live → Live → Type 0
StartsJob job old new = IsStarted (next_stretch old) job (owner_in old) (owner_in new) × (new ≡ record old { claims = new.claims })

-- A job came back, and this came of it. Nothing else changes.
abbrev pub EndsJob : Operation → Task → Live → Live → JobEnd → Type 0
EndsJob m job old new end =
    HasEnded m job (owner_in old) (owner_in new) end × (new ≡ record old { version = new.version; claims = new.claims })

-- A job is out: it was started by the store when that had this owner, events happened since, and its claim is held, with
-- the runs that it had. It hasn't ended.
pub record IsOut (m : Operation) (job : Task) (l : Live) : Type 0 where
  pub lasts : job.stage ≢ Ended
  pub start : Owner
  pub start_is : IsOwner start
  pub held_first : is_held start job.claim ≡ true
  pub compaction : job.compaction ≡ compaction_of start.version (stretch_of start job.claim)
  pub events : List Event
  pub follow : MayFollow m start.version events
  pub version : l.version ≡ fold after start.version events
  pub held : is_held (owner_in l) job.claim ≡ true
  pub runs : claimed_runs (owner_in l) job.claim ≡ claimed_runs start job.claim
