-- Flush jobs that come back, which change no read.
use Rattle.std.proofs.Common.{◌≡◌, true, List, [], ◌∷◌, ◌++◌, None, length, drop, refl, sym, ap, ◌∙◌, subst}
use Rattle.std.specs.Prelude.{◌↔◌}
use Rattle.std.proofs.lemmas.List.{append-nil}
use Rattle.std.proofs.Math.Seq.{drop-append_seam}
use Rattle.uc_bytes.specs.declared.write.Write.{Write}
use Rattle.uc_oper.specs.Operation.{Operation}
use Rattle.uc_batch.specs.Rising.{IsRising}
use Rattle.uc_memtable.proofs.RisingParts.{rising_front}
use Rattle.uc_version_state.specs.Versions.{Stored}
use Rattle.uc_version_state.specs.Feeds.{feed_refusal, MayFeed}
use Rattle.uc_version_state.specs.declared.event.Event.TheVariants.{Flushed}
use Rattle.uc_version_state.proofs.Memtables.{rising_from_any}
use Rattle.uc_version.specs.Owners.{Owner, IsOwner}
use Rattle.uc_version.specs.Claiming.{Claim, is_held}
use Rattle.uc_version.specs.Feeding.{after_feed}
use Rattle.uc_version.specs.Installing.{claimed_runs}
use Rattle.uc_version.specs.Jobs.{Task}
use Rattle.uc_live.specs.declared.flush_end.FlushEnd.{FlushEnd}
use Rattle.uc_live.specs.declared.flush_end.FlushEnd.TheVariants.{Installed, NotRun, FlushedBefore, Refused}
use Rattle.uc_live.specs.Coming.{HasTaken}
use Rattle.uc_live.specs.LiveFlushes.{FlushTask, Begin, IsOwnFlush, EndsFlush}
use Rattle.uc_live.specs.LiveJobs.{IsOut}
use Rattle.uc_live.specs.Lives.{Live, owner_in}
use Rattle.uc_live.proofs.JobsOut.{out_then}
use Rattle.uc_live.proofs.Taken.{taken_then, same_writes}

-- what the law of feeds says
abbrev pub MayBeFed : Type 0
MayBeFed = (u : Stored) (us : List Write) → IsRising 0 us → (feed_refusal u us ≡ None) ↔ MayFeed u us

-- the oldest writes may be fed
may_feed : MayBeFed → (old : Live) (job : FlushTask) → IsRising old.version.last old.gathered → Begin job.writes old.gathered → feed_refusal old.version job.writes ≡ None → MayFeed old.version job.writes
may_feed leave old job rising begin none =
    let v = old.version in
    let front = rising_front v.last job.writes begin.0 (subst (IsRising v.last) begin.1 rising) in
    (leave v job.writes (rising_from_any v.last job.writes front)).0 none

-- and the others are left
both_parts : (ws all : List Write) → Begin ws all → (ws ++ []) ++ drop (length ws) all ≡ all ++ []
both_parts ws all begin =
    ap (λ (us : List Write). us ++ drop (length ws) all) (append-nil ws)
    ∙ ap (λ (us : List Write). ws ++ drop (length ws) us) begin.1
    ∙ ap (λ (us : List Write). ws ++ us) (drop-append_seam ws begin.0)
    ∙ sym begin.1
    ∙ sym (append-nil all)

module _ (m : Operation) (leave : MayBeFed) (old new : Live) (job : FlushTask) (rising : IsRising old.version.last old.gathered) (own : IsOwnFlush old job) where
  same_taken : (before : List Write) → HasTaken m old before → new.version ≡ old.version → new.gathered ≡ old.gathered → HasTaken m new before
  same_taken before taken version gathered =
      same_writes m new before (taken_then m old new before [] [] taken tt version (gathered ∙ sym (append-nil old.gathered)))

  pub flush_ended_taken : (before : List Write) (end : FlushEnd) → HasTaken m old before → EndsFlush job old new end → HasTaken m new before
  flush_ended_taken before (Installed id) taken is =
      let begin = (own is.1).1 in
      let may = may_feed leave old job rising begin is.2 in
      same_writes m new before
      (taken_then m old new before [] (Flushed job.writes ∷ []) taken (may, tt) (ap (λ (l : Live). l.version) is.4)
      (ap (λ (l : Live). (job.writes ++ []) ++ l.gathered) is.4 ∙ both_parts job.writes old.gathered begin))
  flush_ended_taken before NotRun taken is = same_taken before taken (ap (λ (l : Live). l.version) is.2) (ap (λ (l : Live). l.gathered) is.2)
  flush_ended_taken before FlushedBefore taken is = same_taken before taken (ap (λ (l : Live). l.version) is.1) (ap (λ (l : Live). l.gathered) is.1)
  flush_ended_taken before (Refused error) taken is = same_taken before taken (ap (λ (l : Live). l.version) is.3) (ap (λ (l : Live). l.gathered) is.3)

  -- what the law of claims says of feeds
  abbrev pub HoldOverFeeds : Type 0
  HoldOverFeeds = (o : Owner) (c : Claim) (ws : List Write) → IsOwner o → is_held o c ≡ true → MayFeed o.version ws →
      (is_held (after_feed ws o) c ≡ true) × (claimed_runs (after_feed ws o) c ≡ claimed_runs o c)

  module _ (stay : HoldOverFeeds) (owner : IsOwner (owner_in old)) (other : Task) (out : IsOut m other old) where
    still_out : (l : Live) → new ≡ l → l.version ≡ old.version → owner_in l ≡ owner_in old → IsOut m other new
    still_out l is version same =
        subst (λ (k : Live). IsOut m other k) (sym is)
        (out_then m other old l [] out tt version (subst (λ (o : Owner). (is_held o other.claim ≡ true) × (claimed_runs o other.claim ≡ claimed_runs (owner_in old) other.claim)) (sym same) (out.held, refl)))

    pub flush_ended_out : (end : FlushEnd) → EndsFlush job old new end → IsOut m other new
    flush_ended_out (Installed id) is =
        let begin = (own is.1).1 in
        let may = may_feed leave old job rising begin is.2 in
        subst (λ (l : Live). IsOut m other l) (sym is.4)
        (out_then m other old _ (Flushed job.writes ∷ []) out (may, tt) refl (stay (owner_in old) other.claim job.writes owner out.held may))
    flush_ended_out NotRun is = still_out _ is.2 refl refl
    flush_ended_out FlushedBefore is = still_out _ is.1 refl refl
    flush_ended_out (Refused error) is = still_out _ is.3 refl refl
