-- Jobs that a live store starts and ends.
use Rattle.std.proofs.Common.{◌≡◌, ◌↔◌, ◌++◌, Contains, Option, Some, None, Result, Ok, Err, IfOk, OnErr, refl, sym, ap, ◌∙◌, subst}
use Rattle.std.specs.declared.alloc.AllocError.{AllocError}
use Rattle.uc_oper.specs.Operation.{Operation}
use Rattle.uc_batch.specs.Rising.{IsRising}
use Rattle.uc_version_state.specs.declared.stretch.Stretch.{Stretch}
use Rattle.uc_version_state.specs.declared.options.Options.{Options}
use Rattle.uc_version_state.specs.Versions.{Stored}
use Rattle.uc_version.specs.declared.job_end.JobEnd.{JobEnd}
use Rattle.uc_version.specs.declared.job_end.JobEnd.TheVariants.{Installed, NotRun, Refused}
use Rattle.uc_version.specs.Owners.{Owner}
use Rattle.uc_version.specs.Jobs as jobs
use Rattle.uc_version.specs.Jobs.{Task, IsStarted, HasEnded}
use Rattle.uc_live.specs.Lives.{Live, owner_in}
use Rattle.uc_live.specs.LiveJobs.{StartsJob, EndsJob}
use Rattle.uc_live.specs.declared.live_store.LiveStore.TheInside.{Inside}
use Rattle.uc_live.specs.HeldLives.{IsLive, live}

-- Nothing of an owner changed but its runs, its next id and its claims.
abbrev pub SameBase : Owner → Owner → Type 0
SameBase o p = (p.options ≡ o.options) × (p.version.limit ≡ o.version.limit) × (p.version.last ≡ o.version.last) × (p.version.keeps ≡ o.version.keeps)

-- an owner that is another one up to what changes
based_on : (o p q : Owner) → p ≡ q → SameBase o q → SameBase o p
based_on o p q e same = subst (λ (r : Owner). SameBase o r) (sym e) same

started_base : (found : Option Stretch) (job : Option Task) (o p : Owner) → IsStarted found job o p → SameBase o p
started_base None job o p is = based_on o p o is.1 (refl, refl, refl, refl)
started_base (Some s) job o p is = based_on o p _ is.2 (refl, refl, refl, refl)

started_version : (found : Option Stretch) (job : Option Task) (o p : Owner) → IsStarted found job o p → p.version ≡ o.version
started_version None job o p is = ap (λ (q : Owner). q.version) is.1
started_version (Some s) job o p is = ap (λ (q : Owner). q.version) is.2

pub ended_base : (m : Operation) (job : Task) (o p : Owner) (end : JobEnd) → HasEnded m job o p end → SameBase o p
ended_base m job o p (Installed id) is = based_on o p _ is.3 (refl, refl, refl, refl)
ended_base m job o p NotRun is = based_on o p _ is.1 (refl, refl, refl, refl)
ended_base m job o p (Refused error) is = based_on o p _ is.2 (refl, refl, refl, refl)

module _ {O : Type 0} (i : Inside O) (is : IsLive i) where
  pub owner_is : owner_in (live i) ≡ i.owned
  owner_is = ap (λ (o : Options). record i.owned { options = o }) (sym is.options_are)

  pub put_is : (owned : Owner) → SameBase i.owned owned → IsLive (record i { owned = owned })
  put_is owned same = record {
    options_good = is.options_good;
    options_are = same.0 ∙ is.options_are;
    whole = same.1 ∙ is.whole;
    small = is.small;
    rising = subst (λ n. IsRising n (i.active.shown ++ i.active.waiting)) (sym same.2) is.rising;
    leaves = is.leaves;
    taken = λ seq. subst (λ keeps. Contains i.snapshots.items seq ↔ Contains keeps seq) (sym same.3) (is.taken seq);
  }

  put_owner : (owned : Owner) → SameBase i.owned owned → owned ≡ owner_in (live (record i { owned = owned }))
  put_owner owned same = ap (λ (o : Options). record owned { options = o }) (same.0 ∙ is.options_are)

  -- what holds of the owners holds of the stores
  of_stores : (Holds : Owner → Owner → Type 0) (owned : Owner) (now : Live) → live i ≡ now → SameBase i.owned owned → Holds i.owned owned → Holds (owner_in now) (owner_in (live (record i { owned = owned })))
  of_stores Holds owned now view same holds =
      let new = owner_in (live (record i { owned = owned })) in
      subst (λ (l : Live). Holds (owner_in l) new) view
      (subst (λ (o : Owner). Holds o new) (sym owner_is) (subst (λ (o : Owner). Holds i.owned o) (put_owner owned same) holds))

  module _ (owned : Owner) (now : Live) (view : live i ≡ now) where
    -- ---- a job is started

    tells_started : (job : Option Task) → IsStarted (jobs.next_stretch i.owned) job i.owned owned → StartsJob job now (live (record i { owned = owned }))
    tells_started job starts =
        let found = jobs.next_stretch i.owned in
        let version = started_version found job i.owned owned starts in
        let base = started_base found job i.owned owned starts in (
          of_stores (λ o p. IsStarted (jobs.next_stretch o) job o p) owned now view base starts,
          ap (λ (v : Stored). record (live i) { version = v; claims = owned.claims }) version ∙ ap (λ (l : Live). record l { claims = owned.claims }) view,
        )

    -- of both outcomes
    pub started_is : (result : Result (Option Task) AllocError) → IfOk result (λ job. IsStarted (jobs.next_stretch i.owned) job i.owned owned) → OnErr result (owned ≡ i.owned) → IsLive (record i { owned = owned })
    started_is (Ok job) ok err = put_is owned (started_base (jobs.next_stretch i.owned) job i.owned owned ok)
    started_is (Err error) ok err = put_is owned (based_on i.owned owned i.owned err (refl, refl, refl, refl))

    pub starts : (result : Result (Option Task) AllocError) → IfOk result (λ job. IsStarted (jobs.next_stretch i.owned) job i.owned owned) → IfOk result (λ job. StartsJob job now (live (record i { owned = owned })))
    starts (Ok job) ok = tells_started job ok
    starts (Err error) ok = tt

    pub not_started : (result : Result (Option Task) AllocError) → OnErr result (owned ≡ i.owned) → OnErr result (live (record i { owned = owned }) ≡ now)
    not_started (Ok job) err = tt
    not_started (Err error) err = ap (λ (o : Owner). live (record i { owned = o })) err ∙ view

    -- ---- a job is ended

    pub ends : (m : Operation) (job : Task) (end : JobEnd) → HasEnded m job i.owned owned end → EndsJob m job now (live (record i { owned = owned })) end
    ends m job end ended = (
      of_stores (λ o p. HasEnded m job o p end) owned now view (ended_base m job i.owned owned end ended) ended,
      ap (λ (l : Live). record l { version = owned.version; claims = owned.claims }) view,
    )
