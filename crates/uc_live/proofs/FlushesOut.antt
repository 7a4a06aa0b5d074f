-- Flush jobs that are pending while their store is used.
use Rattle.std.proofs.Common.{◌≡◌, ◌≢◌, ℕ, ◌+◌, ◌-◌, ◌^◌, Bool, true, false, List, [], ◌++◌, Option, Some, None, ◌⊎◌, inl, inr, length, append_assoc, refl, sym, ap, ◌∙◌, subst, arith}
use Rattle.std.specs.Prelude.{◌&&◌, ◌==◌, is_some, is_none, nat_lt}
use Rattle.std.proofs.lemmas.Bool.{false≢true, eqb-true, eq-eqb}
use Rattle.std.proofs.lemmas.List.{append-nil}
use Rattle.uc_bytes.specs.declared.write.Write.{Write}
use Rattle.uc_oper.specs.Operation.{Operation}
use Rattle.uc_version.specs.declared.job_end.JobEnd.{JobEnd}
use Rattle.uc_version.specs.declared.job_stage.JobStage.{JobStage}
use Rattle.uc_version.specs.declared.job_stage.JobStage.TheVariants as stages
use Rattle.uc_version.specs.Jobs.{Task, run_stage}
use Rattle.uc_live.specs.Going.{LetsLeave}
use Rattle.uc_live.specs.declared.flush_end.FlushEnd.{FlushEnd}
use Rattle.uc_live.specs.declared.flush_end.FlushEnd.TheVariants.{Installed, NotRun, FlushedBefore, Refused}
use Rattle.uc_live.specs.LiveFlushes.{FlushTask, run, is_full, wants_flush, flush_of, with_flush, StartsFlush, has_flush_out, Begin, EndsFlush, IsOwnFlush, IsFlushOut, IsFlushSpent}
use Rattle.uc_live.specs.LiveJobs.{StartsJob, EndsJob}
use Rattle.uc_live.specs.Lives.{Live, committed, unprepared}
use Rattle.uc_live.specs.Snapshots.{TakesSnapshot, with_snapshot, without_snapshot}

taken_lasts : stages.Taken ≢ stages.Ended
taken_lasts = λ wrong. absurd cc

run_lasts : (stage : JobStage) → stage ≢ stages.Ended → run_stage stage ≢ stages.Ended
run_lasts stages.Taken lasts = λ wrong. absurd cc
run_lasts stages.Run lasts = lasts
run_lasts stages.Ended lasts = lasts

from_some : FlushTask → Option FlushTask → FlushTask
from_some other None = other
from_some other (Some job) = job

-- ---- a job comes out

out_of : (l : Live) → IsFlushOut (flush_of l) (with_flush l)
out_of l = record { lasts = taken_lasts; out = eq-eqb (l.flushes + 1) (l.flushes + 1) refl; leaving = refl; begin = ([], sym (append-nil l.gathered)) }

started_out : (b : Bool) (job : FlushTask) (old new : Live) → StartsFlush b (Some job) old new → IsFlushOut job new
unfolding from_some
started_out false job old new is = let wrong : Some job ≡ None = is.0 in absurd cc
started_out true job old new is =
    subst (λ (t : FlushTask). IsFlushOut t new) (sym (ap (from_some job) is.0)) (subst (λ (l : Live). IsFlushOut (flush_of old) l) (sym is.1) (out_of old))

pub flush_started : (old new : Live) (job : FlushTask) → StartsFlush (wants_flush old) (Some job) old new → IsFlushOut job new
flush_started old new job starts = started_out (wants_flush old) job old new starts

pub none_there : (leaving : Option ℕ) (b : Bool) → (is_none leaving && b) ≡ true → leaving ≡ None
none_there None b e = refl
none_there (Some n) b e = absurd (false≢true e)

started_alone : (b : Bool) (job : FlushTask) (old new : Live) → StartsFlush b (Some job) old new → b ≡ true
started_alone false job old new is = let wrong : Some job ≡ None = is.0 in absurd cc
started_alone true job old new is = refl

pub flush_alone : (old new : Live) (job : FlushTask) → StartsFlush (wants_flush old) (Some job) old new → old.leaving ≡ None
flush_alone old new job starts =
    none_there old.leaving (nat_lt 1 old.options.max_write_buffer_number && (nat_lt old.flushes (2 ^ 64 - 1) && is_full old)) (started_alone (wants_flush old) job old new starts)

pub flush_run : (l : Live) (job : FlushTask) → IsFlushOut job l → IsFlushOut (run job) l
flush_run l job out = record { lasts = run_lasts job.stage out.lasts; out = out.out; leaving = out.leaving; begin = out.begin }

-- ---- and stays out, or its writes are flushed

pub and_back : (a b : Bool) → (a && b) ≡ true → b ≡ true
and_back true b e = e
and_back false b e = absurd (false≢true e)

-- nothing of it changes
pub same_out : (old new : Live) (job : FlushTask) → new.flushes ≡ old.flushes → new.leaving ≡ old.leaving → has_flush_out new job ≡ has_flush_out old job
same_out old new job flushes leaving =
    ap (λ (o : Option ℕ). is_some o && (new.flushes == job.number)) leaving ∙ ap (λ n. is_some old.leaving && (n == job.number)) flushes

pub none_out : (l : Live) (job : FlushTask) → l.leaving ≡ None → has_flush_out l job ≡ false
none_out l job none = ap (λ (o : Option ℕ). is_some o && (l.flushes == job.number)) none

pub flush_lets : (old new : Live) (job : FlushTask) → IsFlushOut job old → LetsLeave old new → IsFlushOut job new ⊎ IsFlushSpent job new
flush_lets old new job out lets = leave lets.1
  where
    leave : ((new.leaving ≡ old.leaving) × ((more : List Write) × (new.gathered ≡ old.gathered ++ more))) ⊎ (new.leaving ≡ None) → IsFlushOut job new ⊎ IsFlushSpent job new
    leave (inl stays) =
        inl (record {
          lasts = out.lasts;
          out = same_out old new job lets.0 stays.0 ∙ out.out;
          leaving = stays.0 ∙ out.leaving;
          begin = (
            out.begin.0 ++ stays.1.0,
            stays.1.1 ∙ ap (λ (ws : List Write). ws ++ stays.1.0) out.begin.1 ∙ append_assoc job.writes out.begin.0 stays.1.0,
          );
        })
    leave (inr none) =
        let number : old.flushes ≡ job.number = eqb-true old.flushes job.number (and_back (is_some old.leaving) (old.flushes == job.number) out.out) in
        let flushes : new.flushes ≡ old.flushes = lets.0 in
        inr (record { taken = omega (arith, number, flushes); not_out = none_out new job none })

-- a store with the same jobs and the same writes
pub flush_same : (old new : Live) (job : FlushTask) → new.flushes ≡ old.flushes → new.leaving ≡ old.leaving → new.gathered ≡ old.gathered → IsFlushOut job old → IsFlushOut job new
flush_same old new job flushes leaving gathered out = record {
  lasts = out.lasts;
  out = same_out old new job flushes leaving ∙ out.out;
  leaving = leaving ∙ out.leaving;
  begin = (out.begin.0, gathered ∙ out.begin.1);
}

pub spent_same : (old new : Live) (job : FlushTask) → new.flushes ≡ old.flushes → new.leaving ≡ old.leaving → IsFlushSpent job old → IsFlushSpent job new
spent_same old new job flushes leaving spent =
    let taken = spent.taken in
    record { taken = omega (arith, taken, flushes); not_out = same_out old new job flushes leaving ∙ spent.not_out }

pub flush_snapshot : (m : Operation) (old new : Live) (seq : ℕ) (job : FlushTask) → IsFlushOut job old → TakesSnapshot m old new seq → IsFlushOut job new ⊎ IsFlushSpent job new
flush_snapshot m old new seq job out takes =
    subst (λ (l : Live). IsFlushOut job l ⊎ IsFlushSpent job l) (sym takes.after) (keep (flush_lets old takes.flushed job out takes.goes_on.5))
  where
    keep : IsFlushOut job takes.flushed ⊎ IsFlushSpent job takes.flushed → IsFlushOut job (with_snapshot takes.flushed) ⊎ IsFlushSpent job (with_snapshot takes.flushed)
    keep (inl still) = inl (flush_same takes.flushed (with_snapshot takes.flushed) job refl refl refl still)
    keep (inr spent) = inr (spent_same takes.flushed (with_snapshot takes.flushed) job refl refl spent)

pub flush_release : (l : Live) (seq : ℕ) (job : FlushTask) → IsFlushOut job l → IsFlushOut job (without_snapshot seq l)
flush_release l seq job out = flush_same l (without_snapshot seq l) job refl refl refl out

pub flush_started_beside : (old new : Live) (job : FlushTask) (other : Option Task) → IsFlushOut job old → StartsJob other old new → IsFlushOut job new
flush_started_beside old new job other out starts =
    flush_same old new job (ap (λ (l : Live). l.flushes) starts.1) (ap (λ (l : Live). l.leaving) starts.1) (ap (λ (l : Live). l.gathered) starts.1) out

pub flush_ended_beside : (m : Operation) (old new : Live) (job : FlushTask) (other : Task) (end : JobEnd) → IsFlushOut job old → EndsJob m other old new end → IsFlushOut job new
flush_ended_beside m old new job other end out ends =
    flush_same old new job (ap (λ (l : Live). l.flushes) ends.1) (ap (λ (l : Live). l.leaving) ends.1) (ap (λ (l : Live). l.gathered) ends.1) out

pub flush_committed : (l : Live) (job : FlushTask) → IsFlushOut job l → IsFlushOut job (committed l)
flush_committed l job out = record { lasts = out.lasts; out = out.out; leaving = out.leaving; begin = more_begin job.writes l.gathered l.prepared out.begin }
  where
    more_begin : (ws all more : List Write) → Begin ws all → Begin ws (all ++ more)
    more_begin ws all more begin = (begin.0 ++ more, ap (λ (us : List Write). us ++ more) begin.1 ∙ append_assoc ws begin.0 more)

pub flush_given_up : (l : Live) (job : FlushTask) → IsFlushOut job l → IsFlushOut job (unprepared l)
flush_given_up l job out = flush_same l (unprepared l) job refl refl refl out

-- no other flush is taken out in that time
alone_beside : (b : Bool) (old new : Live) (job : FlushTask) (other : Option FlushTask) → (b ≡ true → old.leaving ≡ None) → IsFlushOut job old → StartsFlush b other old new → (other ≡ None) × IsFlushOut job new
alone_beside false old new job other none out is = (is.0, subst (λ (l : Live). IsFlushOut job l) (sym is.1) out)
alone_beside true old new job other none out is = let wrong : Some (length job.writes) ≡ None = sym out.leaving ∙ none refl in absurd cc

pub flush_beside_flush : (old new : Live) (job : FlushTask) (other : Option FlushTask) → IsFlushOut job old → StartsFlush (wants_flush old) other old new → (other ≡ None) × IsFlushOut job new
flush_beside_flush old new job other out starts =
    alone_beside (wants_flush old) old new job other
    (none_there old.leaving (nat_lt 1 old.options.max_write_buffer_number && (nat_lt old.flushes (2 ^ 64 - 1) && is_full old))) out starts

-- one that has its number is out
pub same_number : (l : Live) (job other : FlushTask) → has_flush_out l job ≡ true → has_flush_out l other ≡ true → other.number ≡ job.number
same_number l job other out there =
    let one : l.flushes ≡ job.number = eqb-true l.flushes job.number (and_back (is_some l.leaving) (l.flushes == job.number) out) in
    let two : l.flushes ≡ other.number = eqb-true l.flushes other.number (and_back (is_some l.leaving) (l.flushes == other.number) there) in
    sym two ∙ one

pub flush_past_flush : (old new : Live) (job other : FlushTask) (end : FlushEnd) → IsFlushOut job old → other.number ≢ job.number → EndsFlush other old new end → IsFlushOut job new
flush_past_flush old new job other (Installed id) out differs is = absurd (differs (same_number old job other out.out is.1))
flush_past_flush old new job other NotRun out differs is = absurd (differs (same_number old job other out.out is.1))
flush_past_flush old new job other FlushedBefore out differs is = subst (λ (l : Live). IsFlushOut job l) (sym is.1) out
flush_past_flush old new job other (Refused error) out differs is = absurd (differs (same_number old job other out.out is.1))

-- ---- the store takes it back

pub flush_own : (l : Live) (job : FlushTask) → IsFlushOut job l → IsOwnFlush l job
flush_own l job out = λ there. (out.leaving, out.begin)
