-- Flush jobs that a live store takes back.
use Rattle.std.proofs.Common.{◌≡◌, ◌≢◌, ℕ, ◌+◌, ◌-◌, ◌^◌, ◌<◌, ◌≤◌, Bool, true, false, List, [], ◌∷◌, ◌++◌, Option, Some, None, ◌⊎◌, inl, inr, length, drop, append_assoc, refl, sym, ap, ◌∙◌, subst, arith}
use Rattle.std.specs.Prelude.{nat_le, nat_lt}
use Rattle.std.proofs.lemmas.Bool.{leb-false, ltb-false}
use Rattle.std.proofs.lemmas.List.Sums.{sum_by-append}
use Rattle.std.proofs.Math.Seq.{drop-append_seam}
use Rattle.uc_bytes.specs.declared.write.Write.{Write}
use Rattle.uc_batch.specs.Rising.{IsRising, last_of}
use Rattle.uc_claims.specs.declared.table.TheConstants.{MOST_SLOTS}
use Rattle.uc_run.specs.declared.run.Run.{Run}
use Rattle.uc_run.specs.Flush.{flushed}
use Rattle.uc_run.specs.Size.{memtable_size, write_size}
use Rattle.uc_memtable.specs.Gathering.{Gathered}
use Rattle.uc_memtable.proofs.RisingParts.{rising_front, rising_back}
use Rattle.uc_version_state.specs.Flushes.{memtables}
use Rattle.uc_version_state.specs.Feeds.{first_feed_refusal, feed_refusal}
use Rattle.uc_version_state.specs.declared.feed_error.FeedError.{FeedError}
use Rattle.uc_version_state.specs.declared.feed_error.FeedError.TheVariants.{Memory}
use Rattle.uc_version.specs.Owners.{Owner, IsOwner}
use Rattle.uc_version.specs.Feeding.{after_feed, MakesRun}
use Rattle.uc_version.proofs.RunFed.{refusal_is}
use Rattle.uc_live.specs.HeldLives.{IsLive, live}
use Rattle.uc_live.specs.LiveFlushes.{FlushTask, Begin, LacksRoom, with_flushed}
use Rattle.uc_live.specs.Lives.{Live}
use Rattle.uc_live.specs.declared.live_store.LiveStore.TheInside.{Inside}
use Rattle.uc_live.proofs.Held.{size-part}

last_some : (n m : ℕ) (ws : List Write) → ws ≢ [] → last_of n ws ≡ last_of m ws
last_some n m [] some = absurd (some refl)
last_some n m (w ∷ ws) some = refl

size-behind : (ws vs : List Write) → memtable_size vs ≤ memtable_size (ws ++ vs)
size-behind ws vs = let sum = sum_by-append write_size ws vs in omega (arith, sum)

from_some : FeedError → Option FeedError → FeedError
from_some other None = other
from_some other (Some error) = error

-- why a run isn't fed
lacks : (l : Live) (few ids : Bool) (error : FeedError) → l.version.next_id < 2 ^ 64 →
    nat_le (length l.version.runs + 1) MOST_SLOTS ≡ few → nat_lt (l.version.next_id + 1) (2 ^ 64) ≡ ids →
    first_feed_refusal l.version.last true few ids ≡ Some error → LacksRoom error l
unfolding from_some
lacks l false ids error below few_is ids_is e =
    let many = leb-false (length l.version.runs + 1) MOST_SLOTS few_is in
    subst (λ (f : FeedError). LacksRoom f l) (ap (from_some Memory) e) (omega (arith, many))
lacks l true false error below few_is ids_is e =
    let above = ltb-false (l.version.next_id + 1) (2 ^ 64) ids_is in
    let greatest : l.version.next_id ≡ 2 ^ 64 - 1 = omega (arith, above, below) in
    subst (λ (f : FeedError). LacksRoom f l) (ap (from_some Memory) e) (λ left. left greatest)
lacks l true true error below few_is ids_is e = absurd cc

module _ {O : Type 0} (i : Inside O) (is : IsLive i) where
  -- a job is out no more
  pub none_leaves : IsLive (record i { leaving = None })
  none_leaves = record {
    options_good = is.options_good;
    options_are = is.options_are;
    whole = is.whole;
    small = is.small;
    rising = is.rising;
    leaves = tt;
    taken = is.taken;
  }

  -- one is taken out, of all memtables
  pub all_leave : (active : Gathered) → active ≡ record i.active { apart = length i.active.shown } → (flushes n : ℕ) → n ≡ length i.active.shown →
      IsLive (record i { active = active; flushes = flushes; leaving = Some n })
  all_leave active e flushes n count = record {
    options_good = is.options_good;
    options_are = is.options_are;
    whole = is.whole;
    small = subst (λ (g : Gathered). memtable_size (g.shown ++ g.waiting) < 2 ^ 64 - 1) (sym e) is.small;
    rising = subst (λ (g : Gathered). IsRising i.owned.version.last (g.shown ++ g.waiting)) (sym e) is.rising;
    leaves = ap (λ (g : Gathered). g.apart) e ∙ sym count;
    taken = is.taken;
  }

  module _ (job : FlushTask) (begin : Begin job.writes i.active.shown) (some : job.writes ≢ []) where
    rest : List Write
    rest = begin.0

    rising : IsRising i.owned.version.last job.writes
    rising =
        rising_front i.owned.version.last job.writes begin.0
        (subst (IsRising i.owned.version.last) begin.1 (rising_front i.owned.version.last i.active.shown i.active.waiting is.rising))

    small : memtable_size job.writes < i.owned.version.limit
    small =
        let shown : memtable_size i.active.shown < 2 ^ 64 - 1 = size-part (2 ^ 64 - 1) i.active.shown i.active.waiting is.small in
        let front = size-part (2 ^ 64 - 1) job.writes begin.0 (subst (λ (ws : List Write). memtable_size ws < 2 ^ 64 - 1) begin.1 shown) in
        subst (λ n. memtable_size job.writes < n) (sym is.whole) front

    -- its run may be fed
    pub makes : (run : Run) (last : ℕ) → run ≡ flushed job.writes → last ≡ last_of 0 job.writes → MakesRun i.owned.version run last job.writes
    makes run last run_is last_is = record {
      some = some;
      small = small;
      rising = rising;
      run_is = run_is;
      last_is = last_is ∙ last_some 0 i.owned.version.last job.writes some;
    }

    -- why it isn't
    pub why_lacks : ((limit : ℕ) (us : List Write) → us ≢ [] → memtable_size us < limit → memtables limit us ≡ us ∷ []) → IsOwner i.owned → (error : FeedError) →
        (feed_refusal i.owned.version job.writes ≡ Some error) ⊎ ((feed_refusal i.owned.version job.writes ≡ None) × (error ≡ Memory)) → LacksRoom error (live i)
    why_lacks fills owner error (inl e) =
        let v = i.owned.version in
        let refusal = refusal_is v job.writes some rising (fills v.limit job.writes some small) in
        lacks (live i) (nat_le (length v.runs + 1) MOST_SLOTS) (nat_lt (v.next_id + 1) (2 ^ 64)) error owner.version.id_below refl refl (sym refusal ∙ e)
    why_lacks fills owner error (inr e) = subst (λ (f : FeedError). LacksRoom f (live i)) (sym e.1) tt

    -- the writes that are left after it
    left : drop (length job.writes) i.active.shown ≡ begin.0
    left = ap (drop (length job.writes)) begin.1 ∙ drop-append_seam job.writes begin.0

    module _ (owned : Owner) (active : Gathered) (owned_is : owned ≡ after_feed job.writes i.owned)
        (active_is : active ≡ record { shown = drop i.active.apart i.active.shown; waiting = i.active.waiting; apart = 0 }) (apart : i.active.apart ≡ length job.writes) where
      gone : active ≡ record { shown = begin.0; waiting = i.active.waiting; apart = 0 }
      gone = active_is ∙ ap (λ (ws : List Write). record { shown = ws; waiting = i.active.waiting; apart = 0 }) (ap (λ n. drop n i.active.shown) apart ∙ left)

      pub flushed_away : IsLive (record i { owned = owned; active = active; leaving = None })
      flushed_away =
          let v = i.owned.version in
          let whole : (job.writes ++ begin.0) ++ i.active.waiting ≡ job.writes ++ (begin.0 ++ i.active.waiting) = append_assoc job.writes begin.0 i.active.waiting in
          let rises : IsRising v.last (job.writes ++ (begin.0 ++ i.active.waiting)) =
          subst (IsRising v.last) whole (subst (λ (ws : List Write). IsRising v.last (ws ++ i.active.waiting)) begin.1 is.rising) in
          let low : memtable_size (begin.0 ++ i.active.waiting) ≤ memtable_size (job.writes ++ (begin.0 ++ i.active.waiting)) = size-behind job.writes (begin.0 ++ i.active.waiting) in
          let high : memtable_size (job.writes ++ (begin.0 ++ i.active.waiting)) < 2 ^ 64 - 1 =
          subst (λ (ws : List Write). memtable_size ws < 2 ^ 64 - 1) whole (subst (λ (ws : List Write). memtable_size (ws ++ i.active.waiting) < 2 ^ 64 - 1) begin.1 is.small) in
          subst (λ (o : Owner). IsLive (record i { owned = o; active = active; leaving = None })) (sym owned_is)
          (subst (λ (a : Gathered). IsLive (record i { owned = after_feed job.writes i.owned; active = a; leaving = None })) (sym gone) (record {
            options_good = is.options_good;
            options_are = is.options_are;
            whole = is.whole;
            small = omega (arith, low, high);
            rising = rising_back v.last job.writes (begin.0 ++ i.active.waiting) rises;
            leaves = tt;
            taken = is.taken;
          }))

      pub flushed_live : live (record i { owned = owned; active = active; leaving = None }) ≡ with_flushed job (live i)
      flushed_live =
          ap (λ (o : Owner). live (record i { owned = o; active = active; leaving = None })) owned_is
          ∙ ap (λ (a : Gathered). live (record i { owned = after_feed job.writes i.owned; active = a; leaving = None })) active_is
          ∙ ap (λ n. record (live (record i { owned = after_feed job.writes i.owned; leaving = None })) { gathered = drop n i.active.shown }) apart
