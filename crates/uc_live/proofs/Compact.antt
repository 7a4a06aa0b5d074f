-- A compaction of what is picked.
use Rattle.std.proofs.Common.{◌≡◌, true, false, [], Option, Some, None, refl, sym, ap, ◌∙◌, subst}
use Rattle.std.proofs.lemmas.List.{append-nil}
use Rattle.uc_oper.specs.Operation.{Operation}
use Rattle.uc_version_state.specs.declared.stretch.Stretch.{Stretch}
use Rattle.uc_version_state.specs.declared.event.Event.TheVariants.{Installed}
use Rattle.uc_version_state.specs.Installs.{MayInstall}
use Rattle.uc_version_state.specs.Picks.{picked}
use Rattle.uc_version_compact.specs.Picking.{candidates_of}
use Rattle.uc_version.specs.Owners.{Owner, is_busy}
use Rattle.uc_version.specs.AtOnce.{after_compaction, install_at}
use Rattle.uc_live.specs.Lives.{Live}
use Rattle.uc_live.specs.Going.{GoesOn, Follows, HoldsOn}
use Rattle.uc_live.specs.Compacting.{next_stretch, IsCompacted}
use Rattle.uc_live.specs.declared.live_store.LiveStore.TheInside.{Inside}
use Rattle.uc_live.specs.HeldLives.{IsLive, live}
use Rattle.uc_live.proofs.Holding.{claims_up}
use Rattle.uc_live.proofs.Going.{follows_event, lets_stay}
use Rattle.uc_live.proofs.Held.{next_is}

module _ {O : Type 0} (m : Operation) (i : Inside O) (is : IsLive i) (now : Live) (view : live i ≡ now)
    (found : Option Stretch) (found_is : found ≡ picked i.owned.options (candidates_of i.owned.version (is_busy i.owned))) where
  next : next_stretch now ≡ found
  next = ap next_stretch (sym view) ∙ sym (next_is i is) ∙ sym found_is

  -- nothing is picked
  pub nothing : found ≡ None → IsCompacted m (next_stretch now) false now now
  nothing none = subst (λ (s : Option Stretch). IsCompacted m s false now now) (sym (next ∙ none)) (refl, refl)

  module _ (s : Stretch) (some : found ≡ Some s) (owned : Owner) (may : MayInstall m i.owned.version (install_at m i.owned.version s)) (after : owned ≡ after_compaction m i.owned s) where
    -- what was picked is compacted
    pub compacted : IsCompacted m (next_stretch now) true now (live (record i { owned = owned }))
    compacted =
        let here : IsCompacted m (Some s) true (live i) (live (record i { owned = owned })) =
        (refl, may, ap (λ (o : Owner). live (record i { owned = o })) after) in
        subst (λ (f : Option Stretch). IsCompacted m f true now (live (record i { owned = owned }))) (sym (next ∙ some))
        (subst (λ (l : Live). IsCompacted m (Some s) true l (live (record i { owned = owned }))) view here)

    pub goes : HoldsOn i.owned (after_compaction m i.owned s) → GoesOn m now (live (record i { owned = owned })) []
    goes holds =
        let v = i.owned.version in
        let on : Follows m v (after_compaction m i.owned s).version i.active.shown i.active.shown [] =
        follows_event m v (Installed (install_at m v s)) i.active.shown may tt refl in
        let there : GoesOn m (live i) (live (record i { owned = after_compaction m i.owned s })) [] =
        (on, refl, refl, holds, claims_up s.first s.count i.owned.claims, lets_stay (live i) i.active.shown (sym (append-nil i.active.shown))) in
        subst (λ (l : Live). GoesOn m l (live (record i { owned = owned })) []) view
        (subst (λ (o : Owner). GoesOn m (live i) (live (record i { owned = o })) []) (sym after) there)
