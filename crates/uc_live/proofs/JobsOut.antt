-- Jobs that are pending while their store is used.
use Rattle.std.proofs.Common.{◌≡◌, ◌≢◌, ℕ, Bool, true, false, List, [], ◌∷◌, ◌++◌, Option, Some, None, Contains, fold, refl, sym, ap, ◌∙◌, subst}
use Rattle.std.specs.Prelude.{if◌then◌else◌}
use Rattle.std.proofs.lemmas.List.{append-nil}
use Rattle.uc_bytes.specs.declared.write.Write.{Write}
use Rattle.uc_oper.specs.Operation.{Operation}
use Rattle.uc_compact.specs.Inputs.{Compaction, Stand}
use Rattle.uc_version_state.specs.Versions.{Stored, contents_of}
use Rattle.uc_version_state.specs.declared.stretch.Stretch.{Stretch}
use Rattle.uc_version_state.specs.declared.event.Event.{Event}
use Rattle.uc_version_state.specs.declared.event.Event.TheVariants.{Installed, Kept, Released}
use Rattle.uc_version_state.specs.Installs.{MayInstall, installed}
use Rattle.uc_version_state.specs.Snapshots.{released}
use Rattle.uc_version_state.specs.Histories.{MayFollow, after}
use Rattle.uc_version.specs.declared.held_stretch.HeldStretch.{HeldStretch}
use Rattle.uc_version.specs.declared.job_end.JobEnd.{JobEnd}
use Rattle.uc_version.specs.declared.job_end.JobEnd.TheVariants as ends
use Rattle.uc_version.specs.declared.job_stage.JobStage.{JobStage}
use Rattle.uc_version.specs.declared.job_stage.JobStage.TheVariants.{Taken, Run, Ended}
use Rattle.uc_version.specs.Owners.{Owner, IsOwner}
use Rattle.uc_version.specs.Claiming.{Claim, is_held, claim_refusal, claim_of, with_claim, without_claim}
use Rattle.uc_version.specs.Installing.{MayReplace, stretch_of, claimed_runs, compaction_of, after_install, install_of}
use Rattle.uc_version.specs.Jobs.{Task, IsOwn, IsStarted, HasEnded, task_of, run, run_stage}
use Rattle.uc_version.proofs.CompactedNow.{claimed_stretch}
use Rattle.uc_live.specs.Lives.{Live, owner_in}
use Rattle.uc_live.specs.Going.{GoesOn}
use Rattle.uc_live.specs.Snapshots.{TakesSnapshot, with_snapshot, without_one, is_among, without_snapshot}
use Rattle.uc_live.specs.LiveJobs.{StartsJob, IsOut}
use Rattle.uc_live.specs.Compacting.{next_stretch}
use Rattle.uc_live.specs.Coming.{HasTaken}
use Rattle.uc_live.proofs.Going.{follow-append, after-append}
use Rattle.uc_live.proofs.Taken.{taken_then, same_writes}

taken_lasts : Taken ≢ Ended
taken_lasts = λ wrong. absurd cc

run_lasts : (stage : JobStage) → stage ≢ Ended → run_stage stage ≢ Ended
run_lasts Taken lasts = λ wrong. absurd cc
run_lasts Run lasts = lasts
run_lasts Ended lasts = lasts

from_some : Task → Option Task → Task
from_some other None = other
from_some other (Some job) = job

module _ (m : Operation) where
  -- ---- a job comes out

  first_out : (found : Option Stretch) (job : Task) (old new : Live) → IsOwner (owner_in old) → IsStarted found (Some job) (owner_in old) (owner_in new) →
      ((s : Stretch) → claim_refusal (owner_in old) s ≡ None → IsOwner (with_claim (owner_in old) (claim_of (owner_in old) s) s)) →
      ((s : Stretch) → claim_refusal (owner_in old) s ≡ None → is_held (with_claim (owner_in old) (claim_of (owner_in old) s) s) (claim_of (owner_in old) s) ≡ true) → IsOut m job new
  unfolding from_some
  first_out None job old new owner is stays held = let wrong : Some job ≡ None = is.0 in absurd cc
  first_out (Some s) job old new owner is stays held =
      let o = owner_in old in
      let c = claim_of o s in
      let same : job ≡ task_of o s = ap (from_some job) is.1 in
      let there : with_claim o c s ≡ owner_in new = sym is.2 in
      let made : (task_of o s).compaction ≡ compaction_of (with_claim o c s).version (stretch_of (with_claim o c s) c) =
      sym (ap (λ (h : HeldStretch). compaction_of o.version h) (claimed_stretch o owner s is.0)) in
      let out : IsOut m (task_of o s) new = record {
        lasts = taken_lasts;
        start = owner_in new;
        start_is = subst IsOwner there (stays s is.0);
        held_first = subst (λ (p : Owner). is_held p c ≡ true) there (held s is.0);
        compaction = subst (λ (p : Owner). (task_of o s).compaction ≡ compaction_of p.version (stretch_of p c)) there made;
        events = [];
        follow = tt;
        version = refl;
        held = subst (λ (p : Owner). is_held p c ≡ true) there (held s is.0);
        runs = refl;
      } in
      subst (λ (task : Task). IsOut m task new) (sym same) out

  pub out_first : (job : Task) (old new : Live) → IsOwner (owner_in old) → StartsJob (Some job) old new →
      ((s : Stretch) → claim_refusal (owner_in old) s ≡ None → IsOwner (with_claim (owner_in old) (claim_of (owner_in old) s) s)) →
      ((s : Stretch) → claim_refusal (owner_in old) s ≡ None → is_held (with_claim (owner_in old) (claim_of (owner_in old) s) s) (claim_of (owner_in old) s) ≡ true) → IsOut m job new
  out_first job old new owner starts stays held = first_out (next_stretch old) job old new owner starts.0 stays held

  -- it is run
  pub out_run : (job : Task) (l : Live) → IsOut m job l → IsOut m (run job) l
  out_run job l out = record {
    lasts = run_lasts job.stage out.lasts;
    start = out.start;
    start_is = out.start_is;
    held_first = out.held_first;
    compaction = out.compaction;
    events = out.events;
    follow = out.follow;
    version = out.version;
    held = out.held;
    runs = out.runs;
  }

  -- ---- and stays out

  -- the claim of a job is held on, with its runs
  abbrev pub StaysHeld : Task → Live → Live → Type 0
  StaysHeld job old new = (is_held (owner_in new) job.claim ≡ true) × (claimed_runs (owner_in new) job.claim ≡ claimed_runs (owner_in old) job.claim)

  pub out_then : (job : Task) (old new : Live) (fs : List Event) → IsOut m job old → MayFollow m old.version fs → new.version ≡ fold after old.version fs → StaysHeld job old new → IsOut m job new
  out_then job old new fs out follow version stays =
      let start = out.start.version in
      record {
        lasts = out.lasts;
        start = out.start;
        start_is = out.start_is;
        held_first = out.held_first;
        compaction = out.compaction;
        events = out.events ++ fs;
        follow = follow-append m start out.events fs out.follow (subst (λ (v : Stored). MayFollow m v fs) out.version follow);
        version = version ∙ ap (λ (v : Stored). fold after v fs) out.version ∙ sym (after-append start out.events fs);
        held = stays.0;
        runs = stays.1 ∙ out.runs;
      }

  pub out_on : (job : Task) (old new : Live) (ws : List Write) → IsOut m job old → GoesOn m old new ws → IsOut m job new
  out_on job old new ws out on = out_then job old new on.0.events out on.0.follow on.0.version (on.3 job.claim out.held)

  pub out_snapshot : (job : Task) (old new : Live) (seq : ℕ) → IsOut m job old → TakesSnapshot m old new seq → IsOut m job new
  out_snapshot job old new seq out takes =
      let flushed = takes.flushed in
      let until = out_on job old flushed [] out takes.goes_on in
      subst (λ (l : Live). IsOut m job l) (sym takes.after) (out_then job flushed (with_snapshot flushed) (Kept ∷ []) until (tt, tt) refl (until.held, refl))

  out_released : (job : Task) (l : Live) (seq : ℕ) (rest : List ℕ) (b : Bool) → IsOut m job l → Contains l.version.keeps seq →
      IsOut m job (record l { version = if b then l.version else released seq l.version; snapshots = rest })
  out_released job l seq rest true out there = out_then job l (record l { snapshots = rest }) [] out tt refl (out.held, refl)
  out_released job l seq rest false out there =
      out_then job l (record l { version = released seq l.version; snapshots = rest }) (Released seq ∷ []) out (there, tt) refl (out.held, refl)

  pub out_release : (job : Task) (l : Live) (seq : ℕ) → IsOut m job l → Contains l.version.keeps seq → IsOut m job (without_snapshot seq l)
  out_release job l seq out there =
      let rest = without_one seq l.snapshots in
      out_released job l seq rest (is_among seq rest) out there

  -- ---- with another one pending

  -- what the law of claims says of another claim
  abbrev pub HoldOverClaims : Type 0
  HoldOverClaims = (o : Owner) (c : Claim) (s : Stretch) → IsOwner o → is_held o c ≡ true → claim_refusal o s ≡ None →
      (is_held (with_claim o (claim_of o s) s) c ≡ true) × (claimed_runs (with_claim o (claim_of o s) s) c ≡ claimed_runs o c) × (c.number ≢ (claim_of o s).number)

  module _ (job : Task) (old new : Live) (owner : IsOwner (owner_in old)) (out : IsOut m job old) (stay : HoldOverClaims) where
    abbrev Stays : Owner → Type 0
    Stays o = (is_held o job.claim ≡ true) × (claimed_runs o job.claim ≡ claimed_runs (owner_in old) job.claim)

    started_beside : (found : Option Stretch) (other : Option Task) → IsStarted found other (owner_in old) (owner_in new) → IsOut m job new
    started_beside None other is =
        out_then job old new [] out tt (ap (λ (o : Owner). o.version) is.1) (subst (λ (o : Owner). Stays o) (sym is.1) (out.held, refl))
    started_beside (Some s) other is =
        let there = stay (owner_in old) job.claim s owner out.held is.0 in
        out_then job old new [] out tt (ap (λ (o : Owner). o.version) is.2) (subst (λ (o : Owner). Stays o) (sym is.2) (there.0, there.1))

    pub out_beside : (other : Option Task) → StartsJob other old new → IsOut m job new
    out_beside other starts = started_beside (next_stretch old) other starts.0

    started_apart : (found : Option Stretch) (other : Task) → IsStarted found (Some other) (owner_in old) (owner_in new) → other.claim.number ≢ job.claim.number
    unfolding from_some
    started_apart None other is = let wrong : Some other ≡ None = is.0 in absurd cc
    started_apart (Some s) other is =
        let there = stay (owner_in old) job.claim s owner out.held is.0 in
        let same : other ≡ task_of (owner_in old) s = ap (from_some other) is.1 in
        λ equal. there.2 (sym equal ∙ ap (λ (task : Task). task.claim.number) same)

    pub out_apart : (other : Task) → StartsJob (Some other) old new → other.claim.number ≢ job.claim.number
    out_apart other starts = started_apart (next_stretch old) other starts.0

  -- ---- a job comes back

  -- what was made of it can be installed as any compaction
  pub out_stands : (job : Task) (l : Live) → IsOut m job l →
      ((o : Owner) (c : Claim) → IsOwner o → is_held o c ≡ true → Stand (compaction_of o.version (stretch_of o c)).inputs (compaction_of o.version (stretch_of o c)).keeps) →
      Stand job.compaction.inputs job.compaction.keeps
  out_stands job l out stand =
      subst (λ (made : Compaction). Stand made.inputs made.keeps) (sym out.compaction) (stand out.start job.claim out.start_is out.held_first)

  pub out_own : (job : Task) (l : Live) → IsOut m job l → IsOwn (owner_in l) job
  out_own job l out = ap (λ (made : Compaction). made.inputs) out.compaction ∙ sym (ap contents_of out.runs)

  pub started_taken : (job : Option Task) (old new : Live) (before : List Write) → HasTaken m old before → StartsJob job old new → HasTaken m new before
  started_taken job old new before taken starts =
      same_writes m new before (taken_then m old new before [] [] taken tt (ap (λ (l : Live). l.version) starts.1) (ap (λ (l : Live). l.gathered) starts.1 ∙ sym (append-nil old.gathered)))

  -- the event that an end is, if it is one
  pub ended_taken : (job : Task) (old new : Live) (end : JobEnd) (before : List Write) → HasTaken m old before → HasEnded m job (owner_in old) (owner_in new) end → new.gathered ≡ old.gathered →
      (MayReplace old.version (stretch_of (owner_in old) job.claim) job.compaction → MayInstall m old.version (install_of m old.version (stretch_of (owner_in old) job.claim) job.compaction)) →
      (MayReplace old.version (stretch_of (owner_in old) job.claim) job.compaction →
      (after_install m (owner_in old) job.claim job.compaction).version ≡ installed (install_of m old.version (stretch_of (owner_in old) job.claim) job.compaction) old.version) → HasTaken m new before
  ended_taken job old new (ends.Installed id) before taken is gathered may after_is =
      let event = Installed (install_of m old.version (stretch_of (owner_in old) job.claim) job.compaction) in
      same_writes m new before
      (taken_then m old new before [] (event ∷ []) taken (may is.1, tt) (ap (λ (o : Owner). o.version) is.3 ∙ after_is is.1) (gathered ∙ sym (append-nil old.gathered)))
  ended_taken job old new ends.NotRun before taken is gathered may after_is =
      same_writes m new before (taken_then m old new before [] [] taken tt (ap (λ (o : Owner). o.version) is.1) (gathered ∙ sym (append-nil old.gathered)))
  ended_taken job old new (ends.Refused error) before taken is gathered may after_is =
      same_writes m new before (taken_then m old new before [] [] taken tt (ap (λ (o : Owner). o.version) is.2) (gathered ∙ sym (append-nil old.gathered)))

  -- an end as an event
  abbrev pub MayBe : Stored → HeldStretch → Compaction → Type 0
  MayBe v h made = MayReplace v h made → MayInstall m v (install_of m v h made)

  module _ (job : Task) (old new : Live) (owner : IsOwner (owner_in old)) (out : IsOut m job old) (other : Task) (held : is_held (owner_in old) other.claim ≡ true)
      (differs : other.claim.number ≢ job.claim.number)
      (install_held : (o : Owner) (c other : Claim) (made : Compaction) → IsOwner o → is_held o c ≡ true → is_held o other ≡ true → other.number ≢ c.number → is_held (after_install m o c made) other ≡ true)
      (install_kept : (o : Owner) (c other : Claim) (made : Compaction) → IsOwner o → is_held o c ≡ true → is_held o other ≡ true → other.number ≢ c.number → claimed_runs (after_install m o c made) other ≡ claimed_runs o other)
      (abandoned : (o : Owner) (c other : Claim) → IsOwner o → is_held o c ≡ true → is_held o other ≡ true → other.number ≢ c.number →
      (is_held (without_claim o other) c ≡ true) × (claimed_runs (without_claim o other) c ≡ claimed_runs o c))
      (may : MayBe old.version (stretch_of (owner_in old) other.claim) other.compaction)
      (after_is : MayReplace old.version (stretch_of (owner_in old) other.claim) other.compaction →
      (after_install m (owner_in old) other.claim other.compaction).version ≡ installed (install_of m old.version (stretch_of (owner_in old) other.claim) other.compaction) old.version) where
    abbrev StaysSo : Owner → Type 0
    StaysSo o = (is_held o job.claim ≡ true) × (claimed_runs o job.claim ≡ claimed_runs (owner_in old) job.claim)

    pub out_past : (end : JobEnd) → HasEnded m other (owner_in old) (owner_in new) end → IsOut m job new
    out_past (ends.Installed id) is =
        let o = owner_in old in
        let event = Installed (install_of m old.version (stretch_of o other.claim) other.compaction) in
        let apart : job.claim.number ≢ other.claim.number = λ equal. differs (sym equal) in
        out_then job old new (event ∷ []) out (may is.1, tt) (ap (λ (p : Owner). p.version) is.3 ∙ after_is is.1)
        (subst (λ (p : Owner). StaysSo p) (sym is.3)
        (install_held o other.claim job.claim other.compaction owner held out.held apart, install_kept o other.claim job.claim other.compaction owner held out.held apart))
    out_past ends.NotRun is =
        out_then job old new [] out tt (ap (λ (p : Owner). p.version) is.1)
        (subst (λ (p : Owner). StaysSo p) (sym is.1) (abandoned (owner_in old) job.claim other.claim owner out.held held differs))
    out_past (ends.Refused error) is =
        out_then job old new [] out tt (ap (λ (p : Owner). p.version) is.2)
        (subst (λ (p : Owner). StaysSo p) (sym is.2) (abandoned (owner_in old) job.claim other.claim owner out.held held differs))
