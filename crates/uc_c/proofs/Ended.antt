-- Jobs that C gives back.
use Rattle.std.proofs.Common.{◌≡◌, ◌∙◌, ℕ, ◌+◌, Bool, true, false, inl, inr, refl, sym, ap, subst}
use Rattle.std.proofs.lemmas.Bool.{false≢true, eq-eqb}
use Rattle.std.specs.Prelude.{ℤ, Option, Some, None, IsSomeAnd}
use Rattle.uc_oper.specs.Operation.{Operation}
use Rattle.uc_version.specs.declared.job_end.JobEnd.{JobEnd}
use Rattle.uc_version.specs.declared.job_end.JobEnd.TheVariants.{Installed, NotRun, Refused}
use Rattle.uc_version.specs.declared.job_stage.JobStage.TheVariants.{Taken, Run}
use Rattle.uc_version.specs.Owners.{Owner, IsOwner}
use Rattle.uc_version.specs.Jobs.{Task}
use Rattle.uc_live.specs.Compacting.{next_stretch}
use Rattle.uc_live.specs.LiveJobs.{EndsJob, StartsJob}
use Rattle.uc_live.specs.declared.flush_end.FlushEnd.{FlushEnd}
use Rattle.uc_live.specs.declared.flush_end.FlushEnd.TheVariants as flush_ends
use Rattle.uc_live.specs.LiveFlushes.{FlushTask, wants_flush, flush_of, with_flush, without_flush, StartsFlush, EndsFlush, has_flush_out, IsOwnFlush, IsFlushOut}
use Rattle.uc_live.specs.Lives.{Live, owner_in}
use Rattle.uc_engine.specs.declared.store_job.StoreJob.{StoreJob}
use Rattle.uc_engine.specs.declared.taken_job.TakenJob.{TakenJob}
use Rattle.uc_engine.specs.declared.taken_job.TakenJob.TheVariants.{Flush, Compaction}
use Rattle.uc_engine.specs.StoreJobs.{IsOf}
use Rattle.uc_engine.specs.TakenJobs.{TakesFor}
use Rattle.uc_engine.specs.EngineJobs.{EngineTask}
use Rattle.uc_engine.specs.Engines.{Engined, meaning_of}
use Rattle.uc_c.specs.declared.status.TheConstants.{NOT_OF_STORE}
use Rattle.uc_c.specs.Jobs.{CanGoBack, EndsTaken, GoesBack, HasEnded, IsOwn, IsOwnJob, IsTakenBack, Takes, TakesJob, TakesNone}
use Rattle.uc_c.proofs.Owning.{ClaimsAreHeld, ClaimsGoBack, can_end, goes_back, held_is_own, is_not_run}

restored : (old new back : Live) → new ≡ record old { claims = new.claims } → back ≡ record new { version = back.version; claims = back.claims } → owner_in back ≡ owner_in old → back ≡ old
restored old new back starts ends owner =
    ends
    ∙ ap (λ (l : Live). record l { version = back.version; claims = back.claims }) starts
    ∙ ap (λ (o : Owner). record old { version = o.version; claims = o.claims }) owner

-- a job that is ended at once leaves the store as it was
pub unstarted : ClaimsGoBack → (m : Operation) (old new back : Live) (task : Task) (end : JobEnd) → StartsJob (Some task) old new → EndsJob m task new back end → back ≡ old
unstarted go_back m old new back task (Installed id) starts ends = absurd (let wrong : Taken ≡ Run = sym (is_not_run (next_stretch old) task (owner_in old) (owner_in new) starts.0) ∙ ends.0.0 in cc)
unstarted go_back m old new back task (Refused error) starts ends = absurd (let wrong : Taken ≡ Run = sym (is_not_run (next_stretch old) task (owner_in old) (owner_in new) starts.0) ∙ ends.0.0 in cc)
unstarted go_back m old new back task NotRun starts ends =
    restored old new back starts.1 ends.1 (ends.0.1 ∙ goes_back go_back (next_stretch old) task (owner_in old) (owner_in new) starts.0)

pub same : (e e' : Engined) → e'.kind ≡ e.kind → e'.live ≡ e.live → e' ≡ e
same e e' kinds lives = λ i. record { kind = kinds i; live = lives i }

-- ---- a flush job that is ended at once

from_some : FlushTask → Option FlushTask → FlushTask
from_some other None = other
from_some other (Some job) = job

-- it leaves no trace but its number
pub flush_unstarted : (old new back : Live) (job : FlushTask) (end : FlushEnd) → StartsFlush true (Some job) old new → old.leaving ≡ None → EndsFlush job new back end → back ≡ record old { flushes = old.flushes + 1 }
unfolding from_some
flush_unstarted old new back job (flush_ends.Installed id) starts none ends =
    absurd (let wrong : Taken ≡ Run = sym (ap (λ (t : FlushTask). t.stage) (ap (from_some job) starts.0)) ∙ ends.0 in cc)
flush_unstarted old new back job (flush_ends.Refused error) starts none ends =
    absurd (let wrong : Taken ≡ Run = sym (ap (λ (t : FlushTask). t.stage) (ap (from_some job) starts.0)) ∙ ends.0 in cc)
flush_unstarted old new back job flush_ends.FlushedBefore starts none ends =
    let there : has_flush_out (with_flush old) (flush_of old) ≡ true = eq-eqb (old.flushes + 1) (old.flushes + 1) refl in
    let out : has_flush_out new job ≡ true =
    ap (λ (l : Live). has_flush_out l job) starts.1 ∙ ap (has_flush_out (with_flush old)) (ap (from_some job) starts.0) ∙ there in
    absurd (false≢true (sym ends.0 ∙ out))
flush_unstarted old new back job flush_ends.NotRun starts none ends =
    let left : back ≡ record old { flushes = old.flushes + 1; leaving = None } = ends.2 ∙ ap without_flush starts.1 in
    left ∙ ap (λ (o : Option ℕ). record old { flushes = old.flushes + 1; leaving = o }) (sym none)

-- ---- a job of either kind

-- a flush is taken as its store says
pub takes_flush : (b : Bool) (job : FlushTask) (e e' : Engined) → TakesFor b (Some (Flush job)) e e' → StartsFlush b (Some job) e.live e'.live
takes_flush true job e e' is = is
takes_flush false job e e' is = absurd is

pub takes_wanted : (b : Bool) (job : FlushTask) (e e' : Engined) → TakesFor b (Some (Flush job)) e e' → StartsFlush true (Some job) e.live e'.live
takes_wanted true job e e' is = is
takes_wanted false job e e' is = absurd is

pub takes_compaction : (b : Bool) (job : EngineTask) (e e' : Engined) → TakesFor b (Some (Compaction job)) e e' → StartsJob (Some job.task) e.live e'.live × (job.kind ≡ e.kind)
takes_compaction true job e e' is = absurd is
takes_compaction false job e e' is = is

-- what the laws say
abbrev pub FlushesAreOut : Type 0
FlushesAreOut = (old new : Live) (job : FlushTask) → StartsFlush (wants_flush old) (Some job) old new → IsFlushOut job new

abbrev pub FlushesAreAlone : Type 0
FlushesAreAlone = (old new : Live) (job : FlushTask) → StartsFlush (wants_flush old) (Some job) old new → old.leaving ≡ None

abbrev pub FlushesAreOwn : Type 0
FlushesAreOwn = (l : Live) (job : FlushTask) → IsFlushOut job l → IsOwnFlush l job

flush_taken : (job : FlushTask) (old new : Live) → StartsFlush true (Some job) old new → job.stage ≡ Taken
unfolding from_some
flush_taken job old new starts = ap (λ (t : FlushTask). t.stage) (ap (from_some job) starts.0)

-- it can go back
pub can_go_back : ClaimsAreHeld → FlushesAreOut → FlushesAreOwn → (job : TakenJob) (e e' : Engined) → IsOwner (owner_in e.live) → Takes (Some job) e e' → CanGoBack e' job
can_go_back held outs owns (Flush job) e e' owner takes =
    let starts = takes_flush (wants_flush e.live) job e e' takes.1 in (
      flush_taken job e.live e'.live (takes_wanted (wants_flush e.live) job e e' takes.1),
      owns e'.live job (outs e.live e'.live job starts),
    )
can_go_back held outs owns (Compaction job) e e' owner takes =
    let starts = takes_compaction (wants_flush e.live) job e e' takes.1 in
    let next = next_stretch e.live in
    let there = can_end held next job.task (owner_in e.live) (owner_in e'.live) owner starts.0.0 in (
      is_not_run next job.task (owner_in e.live) (owner_in e'.live) starts.0.0,
      (starts.1 ∙ sym takes.0, there),
      held_is_own next job.task (owner_in e.live) (owner_in e'.live) starts.0.0 there,
    )

numbered : (e e' : Engined) → e'.kind ≡ e.kind → e'.live ≡ record e.live { flushes = e.live.flushes + 1 } → e' ≡ record e { live = record e.live { flushes = e.live.flushes + 1 } }
numbered e e' kinds lives = λ i. record { kind = kinds i; live = lives i }

wanted : (b : Bool) (job : FlushTask) (e e' : Engined) → TakesFor b (Some (Flush job)) e e' → b ≡ true
wanted true job e e' is = refl
wanted false job e e' is = absurd is

-- and then nothing is left of it
pub went_back : ClaimsGoBack → FlushesAreAlone → (job : TakenJob) (e e' back : Engined) → Takes (Some job) e e' → GoesBack e' back job → TakesNone e back
went_back go_back alone (Flush job) e e' back takes ends =
    let starts = takes_flush (wants_flush e.live) job e e' takes.1 in
    inr (
      wanted (wants_flush e.live) job e e' takes.1,
      numbered e back (ends.0 ∙ takes.0)
          (flush_unstarted e.live e'.live back.live job ends.1.0 (takes_wanted (wants_flush e.live) job e e' takes.1) (alone e.live e'.live job starts) ends.1.1),
    )
went_back go_back alone (Compaction job) e e' back takes ends =
    let starts = takes_compaction (wants_flush e.live) job e e' takes.1 in
    let lives : back.live ≡ e.live = unstarted go_back (meaning_of e'.kind) e.live e'.live back.live job.task ends.1.0 starts.0 ends.1.1 in
    inl (same e back (ends.0 ∙ takes.0) lives)

-- a job that was just taken is the store's own
takes_own : FlushesAreOut → FlushesAreOwn → (job : TakenJob) (e e' : Engined) → Takes (Some job) e e' → IsOwn e' job
takes_own outs owns (Flush job) e e' takes =
    λ lasts. owns e'.live job (outs e.live e'.live job (takes_flush (wants_flush e.live) job e e' takes.1))
takes_own outs owns (Compaction job) e e' takes =
    let starts = takes_compaction (wants_flush e.live) job e e' takes.1 in
    λ lasts out. held_is_own (next_stretch e.live) job.task (owner_in e.live) (owner_in e'.live) starts.0.0 out.1

none_own : (store : Option Engined) (job : Option StoreJob) → job ≡ None → IsOwnJob store job
none_own store job none = subst (IsOwnJob store) (sym none) (nothing store)
  where
    nothing : (store : Option Engined) → IsOwnJob store None
    nothing None = tt
    nothing (Some e) = tt

pub taken_own : FlushesAreOut → FlushesAreOwn → (status : ℤ) (store store' : Option Engined) (job' : Option StoreJob) (taken : Bool) → TakesJob status store store' None job' taken → IsOwnJob store' job'
taken_own outs owns status None store' job' taken is = none_own store' job' is.1.1
taken_own outs owns status (Some e) None job' taken (inl is) = absurd is.2
taken_own outs owns status (Some e) (Some e') None taken (inl is) = tt
taken_own outs owns status (Some e) (Some e') (Some job) taken (inl is) = λ of. takes_own outs owns job.job e e' is.2.0
taken_own outs owns status (Some e) store' job' taken (inr is) = none_own store' job' is.1

-- ---- jobs of other stores

module _ (e : Engined) (job : StoreJob) (other : ¬ IsOf e job) where
  unchanged : (store' : Option Engined) (job' : Option StoreJob) → IsSomeAnd store' (λ e'. IsSomeAnd job' (λ t'. IsTakenBack e e' job t' None)) → (store' ≡ Some e) × (job' ≡ Some job)
  unchanged None job' is = absurd is
  unchanged (Some e') None is = absurd is
  unchanged (Some e') (Some t') is = (ap Some is.1, ap Some is.0)

  not_ended : (store' : Option Engined) (job' : Option StoreJob) (installed : Bool) → IsSomeAnd store' (λ e'. IsSomeAnd job' (λ t'. IsTakenBack e e' job t' (Some installed))) → ⊥
  not_ended None job' installed is = absurd is
  not_ended (Some e') None installed is = absurd is
  not_ended (Some e') (Some t') installed is = other is.0

  pub others_stay : (status : ℤ) (store' : Option Engined) (job' : Option StoreJob) (installed : Bool) → EndsTaken status (Some e) store' (Some job) job' installed → (store' ≡ Some e) × (job' ≡ Some job)
  others_stay status store' job' installed (inl is) = is.2
  others_stay status store' job' installed (inr is) = elim is.1 [
    | inl ends ↦ absurd (not_ended store' job' installed ends.1)
    | inr refused ↦ unchanged store' job' refused.1
  ]

  pub others_refused : (status : ℤ) (store' : Option Engined) (job' : Option StoreJob) (installed : Bool) → ¬ HasEnded job.job → EndsTaken status (Some e) store' (Some job) job' installed → status ≡ NOT_OF_STORE
  others_refused status store' job' installed lasts (inl is) = absurd (lasts is.1)
  others_refused status store' job' installed lasts (inr is) = elim is.1 [
    | inl ends ↦ absurd (not_ended store' job' installed ends.1)
    | inr refused ↦ refused.0
  ]
