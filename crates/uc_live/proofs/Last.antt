-- The last sequence number of a store, and the writes that are prepared after it.
use Rattle.std.proofs.Common.{◌≡◌, ◌-◌, ◌^◌, ◌<◌, ◌≤◌, List, [], ◌∷◌, ◌++◌, fold, append_assoc, refl, sym, ap, ◌∙◌, subst}
use Rattle.std.specs.List.{flat_map}
use Rattle.std.proofs.lemmas.List.{append-nil}
use Rattle.uc_bytes.specs.declared.write.Write.{Write}
use Rattle.uc_oper.specs.Operation.{Operation}
use Rattle.uc_batch.specs.Rising.{IsRising, last_of}
use Rattle.uc_batch.proofs.Rises.{last_of-append, rising-append}
use Rattle.uc_run.specs.Size.{memtable_size}
use Rattle.uc_memtable.specs.Gathering.{Gathered}
use Rattle.uc_memtable.proofs.RisingParts.{rising_front, rising_lower, last_low}
use Rattle.uc_version_state.specs.Versions.{Stored}
use Rattle.uc_version_state.specs.Feeds.{fed}
use Rattle.uc_version_state.specs.Installs.{installed}
use Rattle.uc_version_state.specs.Snapshots.{kept, released}
use Rattle.uc_version_state.specs.Histories.{after, writes_brought}
use Rattle.uc_version_state.specs.declared.event.Event.{Event}
use Rattle.uc_version_state.specs.declared.event.Event.TheVariants.{Installed, Flushed, Kept, Released}
use Rattle.uc_version_state.proofs.Memtables.{last_limit}
use Rattle.uc_version.specs.Owners.{IsOwner}
use Rattle.uc_live.specs.Lives.{Live, last}
use Rattle.uc_live.specs.Going.{Follows}
use Rattle.uc_live.specs.Writing.{Prepares}
use Rattle.uc_live.specs.declared.live_store.LiveStore.TheInside.{Inside}
use Rattle.uc_live.specs.HeldLives.{IsLive, live}
use Rattle.uc_live.proofs.Held.{prepared_is}

last_after : (v : Stored) (es : List Event) → (fold after v es).last ≡ last_of v.last (flat_map writes_brought es)
last_after v [] = refl
last_after v (Installed i ∷ es) = last_after (installed i v) es
last_after v (Flushed ws ∷ es) = last_after (fed ws v) es ∙ sym (last_of-append v.last ws (flat_map writes_brought es))
last_after v (Kept ∷ es) = last_after (kept v) es
last_after v (Released seq ∷ es) = last_after (released seq v) es

-- a store that took some writes has their last sequence
pub last_follows : (m : Operation) (v v' : Stored) (g g' ws : List Write) → Follows m v v' g g' ws → last_of v'.last g' ≡ last_of v.last (g ++ ws)
last_follows m v v' g g' ws follows =
    let es = follows.events in
    ap (λ (u : Stored). last_of u.last g') follows.version
    ∙ ap (λ n. last_of n g') (last_after v es)
    ∙ sym (last_of-append v.last (flat_map writes_brought es) g')
    ∙ ap (last_of v.last) follows.writes

-- a store that was only flushed, in which nothing is prepared
module _ {O : Type 0} (m : Operation) (i : Inside O) (old now : Live) (view : live i ≡ now) (prepares : Prepares m old now []) where
  none : i.active.waiting ≡ []
  none = ap (λ (l : Live). l.prepared) view ∙ prepares.1

  shown : i.active.shown ++ i.active.waiting ≡ i.active.shown
  shown = ap (λ (ws : List Write). i.active.shown ++ ws) none ∙ append-nil i.active.shown

  stays : last (live i) ≡ last old
  stays =
      ap last view
      ∙ last_follows m old.version now.version old.gathered now.gathered [] prepares.0.0
      ∙ ap (last_of old.version.last) (append-nil old.gathered)

  -- a number after the last sequence number is after all that is held
  pub rises_behind : (ws : List Write) → IsRising (last old) ws → IsRising (last_of 0 (i.active.shown ++ i.active.waiting)) ws
  rises_behind ws rising =
      let low : last_of 0 i.active.shown ≤ last (live i) = last_low i.owned.version.last i.active.shown in
      let le : last_of 0 (i.active.shown ++ i.active.waiting) ≤ last old =
      subst (λ n. last_of 0 (i.active.shown ++ i.active.waiting) ≤ n) stays
      (subst (λ (us : List Write). last_of 0 us ≤ last (live i)) (sym shown) low) in
      rising_lower (last_of 0 (i.active.shown ++ i.active.waiting)) (last old) ws le rising

  pub waits_behind : IsLive i → (ws : List Write) → IsRising (last old) ws → (active : Gathered) → active ≡ record i.active { waiting = i.active.waiting ++ ws }
      → memtable_size (active.shown ++ active.waiting) < 2 ^ 64 - 1 → IsLive (record i { active = active })
  waits_behind is ws rising active e small =
      let v = i.owned.version in
      let same : last old ≡ last_of v.last (i.active.shown ++ i.active.waiting) = sym stays ∙ sym (ap (last_of v.last) shown) in
      let whole : IsRising v.last ((i.active.shown ++ i.active.waiting) ++ ws) =
      rising-append v.last (i.active.shown ++ i.active.waiting) ws is.rising (subst (λ n. IsRising n ws) same rising) in
      let there : i.active.shown ++ (i.active.waiting ++ ws) ≡ active.shown ++ active.waiting = sym (ap (λ (g : Gathered). g.shown ++ g.waiting) e) in
      prepared_is i is active (ap (λ (g : Gathered). g.apart) e) small
      (subst (λ (us : List Write). IsRising v.last us) (append_assoc i.active.shown i.active.waiting ws ∙ there) whole)

-- a sequence is left in 64 bits
pub last_limited : {O : Type 0} (i : Inside O) → IsLive i → IsOwner i.owned → (active : Gathered) → active ≡ record i.active { waiting = [] } → last (live (record i { active = active })) < 2 ^ 56
last_limited i is owner active e =
    let v = i.owned.version in
    let here = last_limit v.last i.active.shown owner.version.last_below (rising_front v.last i.active.shown i.active.waiting is.rising) in
    subst (λ (g : Gathered). last_of v.last g.shown < 2 ^ 56) (sym e) here
