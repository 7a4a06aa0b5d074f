-- Flush jobs whose writes their store flushed itself.
use Rattle.std.proofs.Common.{◌≡◌, ℕ, ◌+◌, ◌≤◌, Bool, true, false, List, ◌++◌, Option, None, ◌⊎◌, inl, inr, refl, sym, ap, ◌∙◌, subst, arith}
use Rattle.std.specs.Prelude.{◌==◌}
use Rattle.std.proofs.lemmas.Bool.{false≢true, eqb-true}
use Rattle.uc_bytes.specs.declared.write.Write.{Write}
use Rattle.uc_oper.specs.Operation.{Operation}
use Rattle.uc_version.specs.declared.job_end.JobEnd.{JobEnd}
use Rattle.uc_version.specs.Jobs.{Task}
use Rattle.uc_live.specs.Going.{LetsLeave}
use Rattle.uc_live.specs.declared.flush_end.FlushEnd.{FlushEnd}
use Rattle.uc_live.specs.declared.flush_end.FlushEnd.TheVariants.{Installed, NotRun, FlushedBefore, Refused}
use Rattle.uc_live.specs.LiveFlushes.{FlushTask, run, wants_flush, with_flush, StartsFlush, EndsFlush, IsOwnFlush, IsFlushSpent}
use Rattle.uc_live.specs.LiveJobs.{StartsJob, EndsJob}
use Rattle.uc_live.specs.Lives.{Live, committed, unprepared}
use Rattle.uc_live.specs.Snapshots.{TakesSnapshot, with_snapshot, without_snapshot}
use Rattle.uc_live.proofs.FlushesOut.{none_out, spent_same}

pub spent_run : (l : Live) (job : FlushTask) → IsFlushSpent job l → IsFlushSpent (run job) l
spent_run l job spent = record { taken = spent.taken; not_out = spent.not_out }

-- none is out any more
spent_none : (old new : Live) (job : FlushTask) → new.flushes ≡ old.flushes → new.leaving ≡ None → IsFlushSpent job old → IsFlushSpent job new
spent_none old new job flushes none spent =
    let taken = spent.taken in
    record { taken = omega (arith, taken, flushes); not_out = none_out new job none }

pub spent_on : (old new : Live) (job : FlushTask) → IsFlushSpent job old → LetsLeave old new → IsFlushSpent job new
spent_on old new job spent lets = leave lets.1
  where
    leave : ((new.leaving ≡ old.leaving) × ((more : List Write) × (new.gathered ≡ old.gathered ++ more))) ⊎ (new.leaving ≡ None) → IsFlushSpent job new
    leave (inl stays) = spent_same old new job lets.0 stays.0 spent
    leave (inr none) = spent_none old new job lets.0 none spent

pub spent_snapshot : (m : Operation) (old new : Live) (seq : ℕ) (job : FlushTask) → IsFlushSpent job old → TakesSnapshot m old new seq → IsFlushSpent job new
spent_snapshot m old new seq job spent takes =
    subst (λ (l : Live). IsFlushSpent job l) (sym takes.after)
    (spent_same takes.flushed (with_snapshot takes.flushed) job refl refl (spent_on old takes.flushed job spent takes.goes_on.5))

pub spent_release : (l : Live) (seq : ℕ) (job : FlushTask) → IsFlushSpent job l → IsFlushSpent job (without_snapshot seq l)
spent_release l seq job spent = spent_same l (without_snapshot seq l) job refl refl spent

pub spent_committed : (l : Live) (job : FlushTask) → IsFlushSpent job l → IsFlushSpent job (committed l)
spent_committed l job spent = spent_same l (committed l) job refl refl spent

pub spent_given_up : (l : Live) (job : FlushTask) → IsFlushSpent job l → IsFlushSpent job (unprepared l)
spent_given_up l job spent = spent_same l (unprepared l) job refl refl spent

pub spent_started_beside : (old new : Live) (job : FlushTask) (other : Option Task) → IsFlushSpent job old → StartsJob other old new → IsFlushSpent job new
spent_started_beside old new job other spent starts =
    spent_same old new job (ap (λ (l : Live). l.flushes) starts.1) (ap (λ (l : Live). l.leaving) starts.1) spent

pub spent_ended_beside : (m : Operation) (old new : Live) (job : FlushTask) (other : Task) (end : JobEnd) → IsFlushSpent job old → EndsJob m other old new end → IsFlushSpent job new
spent_ended_beside m old new job other end spent ends =
    spent_same old new job (ap (λ (l : Live). l.flushes) ends.1) (ap (λ (l : Live). l.leaving) ends.1) spent

beside_of : (l : Live) (job : FlushTask) → IsFlushSpent job l → IsFlushSpent job (with_flush l)
beside_of l job spent =
    let taken = spent.taken in
    record { taken = omega (arith, taken); not_out = differs (l.flushes + 1) job.number (l.flushes + 1 == job.number) refl (omega (arith, taken)) }
  where
    differs : (n k : ℕ) (b : Bool) → (n == k) ≡ b → k + 1 ≤ n → (n == k) ≡ false
    differs n k false e lt = e
    differs n k true e lt = let same : n ≡ k = eqb-true n k e in absurd (omega (arith, same, lt))

started_beside : (b : Bool) (old new : Live) (job : FlushTask) (other : Option FlushTask) → IsFlushSpent job old → StartsFlush b other old new → IsFlushSpent job new
started_beside false old new job other spent is = subst (λ (l : Live). IsFlushSpent job l) (sym is.1) spent
started_beside true old new job other spent is = subst (λ (l : Live). IsFlushSpent job l) (sym is.1) (beside_of old job spent)

pub spent_beside : (old new : Live) (job : FlushTask) (other : Option FlushTask) → IsFlushSpent job old → StartsFlush (wants_flush old) other old new → IsFlushSpent job new
spent_beside old new job other spent starts = started_beside (wants_flush old) old new job other spent starts

pub spent_past : (old new : Live) (job other : FlushTask) (end : FlushEnd) → IsFlushSpent job old → EndsFlush other old new end → IsFlushSpent job new
spent_past old new job other (Installed id) spent is =
    spent_none old new job (ap (λ (l : Live). l.flushes) is.4) (ap (λ (l : Live). l.leaving) is.4) spent
spent_past old new job other NotRun spent is =
    spent_none old new job (ap (λ (l : Live). l.flushes) is.2) (ap (λ (l : Live). l.leaving) is.2) spent
spent_past old new job other FlushedBefore spent is = subst (λ (l : Live). IsFlushSpent job l) (sym is.1) spent
spent_past old new job other (Refused error) spent is =
    spent_none old new job (ap (λ (l : Live). l.flushes) is.3) (ap (λ (l : Live). l.leaving) is.3) spent

-- ---- the store takes it back

pub spent_own : (l : Live) (job : FlushTask) → IsFlushSpent job l → IsOwnFlush l job
spent_own l job spent = λ there. absurd (false≢true (sym spent.not_out ∙ there))

pub spent_ends : (old new : Live) (job : FlushTask) (end : FlushEnd) → IsFlushSpent job old → EndsFlush job old new end → new ≡ old
spent_ends old new job (Installed id) spent is = absurd (false≢true (sym spent.not_out ∙ is.1))
spent_ends old new job NotRun spent is = absurd (false≢true (sym spent.not_out ∙ is.1))
spent_ends old new job FlushedBefore spent is = is.1
spent_ends old new job (Refused error) spent is = absurd (false≢true (sym spent.not_out ∙ is.1))
