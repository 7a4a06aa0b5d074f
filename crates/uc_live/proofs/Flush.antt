-- A flush of the memtables.
use Rattle.std.proofs.Common.{◌≡◌, ◌≢◌, ℕ, ◌+◌, ◌-◌, ◌^◌, ◌<◌, Bool, true, false, List, [], ◌∷◌, Option, Some, None, ◌⊎◌, inl, inr, length, refl, sym, ap, ◌∙◌, subst, arith}
use Rattle.std.specs.Prelude.{nat_le, nat_lt, ◌↔◌, is_some}
use Rattle.std.specs.List.{list_any}
use Rattle.std.proofs.lemmas.Bool.{lt-ltb, ltb-false, le-leb}
use Rattle.uc_bytes.specs.declared.write.Write.{Write}
use Rattle.uc_oper.specs.Operation.{Operation}
use Rattle.uc_batch.specs.Rising.{IsRising}
use Rattle.uc_claims.specs.declared.table.TheConstants.{MOST_SLOTS}
use Rattle.uc_run.specs.Size.{memtable_size}
use Rattle.uc_memtable.proofs.RisingParts.{rising_front}
use Rattle.uc_version_state.specs.Versions.{Stored}
use Rattle.uc_version_state.specs.Flushes.{memtables}
use Rattle.uc_version_state.specs.Feeds.{memtables_in, begin_above, first_feed_refusal, feed_refusal, MayFeed}
use Rattle.uc_version_state.specs.Installs.{IdLeft}
use Rattle.uc_version_state.specs.declared.feed_error.FeedError.{FeedError}
use Rattle.uc_version_state.specs.declared.feed_error.FeedError.TheVariants.{Back, TooManyRuns, IdsSpent, Memory}
use Rattle.uc_version_state.proofs.Memtables.{rising_from_any}
use Rattle.uc_version.specs.Owners.{Owner, IsOwner}
use Rattle.uc_version.specs.Claiming.{Claim, is_held}
use Rattle.uc_version.specs.Installing.{claimed_runs}
use Rattle.uc_version.specs.Feeding.{after_feed}
use Rattle.uc_live.specs.Lives.{Live, owner_in, has_claims}
use Rattle.uc_live.specs.Going.{Follows, HoldsOn}
use Rattle.uc_live.specs.declared.live_store.LiveStore.TheInside.{Inside}
use Rattle.uc_live.specs.HeldLives.{IsLive, live}
use Rattle.uc_live.proofs.Holding.{claims_down}
use Rattle.uc_live.proofs.Going.{follows_flush}
use Rattle.uc_live.proofs.Held.{size-part}

begins : (last : ℕ) (ws : List Write) → IsRising last ws → begin_above last ws ≡ true
begins last [] h = refl
begins last (w ∷ ws) h = lt-ltb last w.seq h.0

from_some : Option FeedError → FeedError
from_some None = Memory
from_some (Some error) = error

only_ids : (last : ℕ) (ids : Bool) (error : FeedError) → first_feed_refusal last true true ids ≡ Some error → (error ≡ IdsSpent) × (ids ≡ false)
unfolding from_some
only_ids last false error e = (sym (ap from_some e), refl)
only_ids last true error e = absurd cc

-- no id is left, or memory ran out
abbrev pub Why : Stored → FeedError → Type 0
Why v error = ((error ≡ IdsSpent) × (IdLeft v → ⊥)) ⊎ (error ≡ Memory)

pub not_back : (v : Stored) (n : ℕ) → Why v (Back n) → ⊥
not_back v n (inl e) = let same : Back n ≡ IdsSpent = e.0 in absurd cc
not_back v n (inr e) = absurd cc

pub not_many : (v : Stored) → Why v TooManyRuns → ⊥
not_many v (inl e) = let same : TooManyRuns ≡ IdsSpent = e.0 in absurd cc
not_many v (inr e) = absurd cc

pub ids_spent : (v : Stored) → Why v IdsSpent → IdLeft v → ⊥
ids_spent v (inl e) = e.1
ids_spent v (inr e) = absurd cc

module _ {O : Type 0} (i : Inside O) (is : IsLive i) (owner : IsOwner i.owned) (now : Live) (view : live i ≡ now)
    (fills : (limit : ℕ) (us : List Write) → us ≢ [] → memtable_size us < limit → memtables limit us ≡ us ∷ [])
    (leave : (u : Stored) (us : List Write) → IsRising 0 us → (feed_refusal u us ≡ None) ↔ MayFeed u us)
    (some : now.gathered ≢ []) (free : length now.version.runs < MOST_SLOTS) where
  rising : IsRising i.owned.version.last i.active.shown
  rising = rising_front i.owned.version.last i.active.shown i.active.waiting is.rising

  one : memtables_in i.owned.version i.active.shown ≡ i.active.shown ∷ []
  one =
      let there : i.active.shown ≢ [] = λ none. some (sym (ap (λ (l : Live). l.gathered) view) ∙ none) in
      let small : memtable_size i.active.shown < 2 ^ 64 - 1 = size-part (2 ^ 64 - 1) i.active.shown i.active.waiting is.small in
      let below : memtable_size i.active.shown < i.owned.version.limit = subst (λ n. memtable_size i.active.shown < n) (sym is.whole) small in
      fills i.owned.version.limit i.active.shown there below

  refusal : feed_refusal i.owned.version i.active.shown ≡ first_feed_refusal i.owned.version.last true true (nat_lt (i.owned.version.next_id + 1) (2 ^ 64))
  refusal =
      let v = i.owned.version in
      let room : length v.runs < MOST_SLOTS = subst (λ (l : Live). length l.version.runs < MOST_SLOTS) (sym view) free in
      let few : nat_le (length v.runs + 1) MOST_SLOTS ≡ true = le-leb (length v.runs + 1) MOST_SLOTS (omega (arith, room)) in
      ap (λ (ms : List (List Write)). first_feed_refusal v.last (begin_above v.last i.active.shown) (nat_le (length v.runs + length ms) MOST_SLOTS) (nat_lt (v.next_id + length ms) (2 ^ 64))) one
      ∙ ap (λ b. first_feed_refusal v.last b (nat_le (length v.runs + 1) MOST_SLOTS) (nat_lt (v.next_id + 1) (2 ^ 64))) (begins v.last i.active.shown rising)
      ∙ ap (λ b. first_feed_refusal v.last true b (nat_lt (v.next_id + 1) (2 ^ 64))) few

  pub why : (error : FeedError) → (feed_refusal i.owned.version i.active.shown ≡ Some error) ⊎ (error ≡ Memory) → Why i.owned.version error
  why error (inl e) =
      let v = i.owned.version in
      let told = only_ids v.last (nat_lt (v.next_id + 1) (2 ^ 64)) error (sym refusal ∙ e) in
      let above = ltb-false (v.next_id + 1) (2 ^ 64) told.1 in
      let below = owner.version.id_below in
      let greatest : v.next_id ≡ 2 ^ 64 - 1 = omega (arith, above, below) in
      inl (told.0, λ left. left greatest)
  why error (inr e) = inr e

  pub flushes : (m : Operation) (owned : Owner) → feed_refusal i.owned.version i.active.shown ≡ None → owned ≡ after_feed i.active.shown i.owned → Follows m now.version owned.version now.gathered [] []
  flushes m owned none e =
      let v = i.owned.version in
      let may = (leave v i.active.shown (rising_from_any v.last i.active.shown rising)).0 none in
      let here : Follows m v owned.version i.active.shown [] [] =
      subst (λ (o : Owner). Follows m v o.version i.active.shown [] []) (sym e) (follows_flush m v i.active.shown may) in
      subst (λ (l : Live). Follows m l.version owned.version l.gathered [] []) view here

  -- what the law of claims says of feeds
  abbrev pub HoldOverFeeds : Type 0
  HoldOverFeeds = (o : Owner) (c : Claim) (ws : List Write) → IsOwner o → is_held o c ≡ true → MayFeed o.version ws →
      (is_held (after_feed ws o) c ≡ true) × (claimed_runs (after_feed ws o) c ≡ claimed_runs o c)

  pub holds_over : HoldOverFeeds → (owned : Owner) → feed_refusal i.owned.version i.active.shown ≡ None → owned ≡ after_feed i.active.shown i.owned → HoldsOn (owner_in now) owned
  holds_over stay owned none e =
      let v = i.owned.version in
      let may = (leave v i.active.shown (rising_from_any v.last i.active.shown rising)).0 none in
      let here : HoldsOn i.owned owned = subst (λ (o : Owner). HoldsOn i.owned o) (sym e) (λ c held. stay i.owned c i.active.shown owner held may) in
      subst (λ (l : Live). HoldsOn (owner_in l) owned) view here

  pub claims_stay : (owned : Owner) → owned ≡ after_feed i.active.shown i.owned → list_any is_some owned.claims ≡ has_claims now
  claims_stay owned e =
      ap (λ (o : Owner). list_any is_some o.claims) e
      ∙ claims_down (length (memtables_in i.owned.version i.active.shown)) i.owned.claims
      ∙ ap has_claims view
