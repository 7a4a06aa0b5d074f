-- The version that is shown after a feed, a keep or a release.
use Rattle.std.proofs.Common.{◌≡◌, List, [], ◌∷◌, length, map, fold, refl, sym, ap, ◌∙◌, subst}
use Rattle.std.proofs.lemmas.List.{length-map}
use mathlib.Core.List.{IsPrefix}
use Rattle.uc_bytes.specs.declared.write.Write.{Write}
use Rattle.uc_run_entry.specs.Run.{Contents}
use Rattle.uc_run.specs.Flush.{flushed}
use Rattle.uc_version_state.specs.Versions.{Stored}
use Rattle.uc_version_state.specs.Flushes.{memtables}
use Rattle.uc_version_state.specs.Feeds.{memtables_in}
use Rattle.uc_version_state.specs.Histories.{after}
use Rattle.uc_version_state.specs.declared.event.Event.{Event}
use Rattle.uc_version_state.specs.declared.event.Event.TheVariants.{Installed, Flushed, Kept, Released}
use Rattle.uc_share.specs.Fronts.{Moment, after_event}
use Rattle.uc_share.specs.Installing.{EndsWith}

-- no event changes from how many bytes on a memtable is flushed
limit_after : (v : Stored) (e : Event) → (after v e).limit ≡ v.limit
limit_after v (Installed i) = refl
limit_after v (Flushed ws) = refl
limit_after v Kept = refl
limit_after v (Released seq) = refl

pub limit_along : (v : Stored) (es : List Event) → (fold after v es).limit ≡ v.limit
limit_along v [] = refl
limit_along v (e ∷ es) = limit_along (after v e) es ∙ limit_after v e

module _ (base now : Stored) (es : List Event) (is : now ≡ fold after base es) where
  same_limit : base.limit ≡ now.limit
  same_limit = sym (ap (λ (v : Stored). v.limit) is ∙ limit_along base es)

  -- so memtables are cut alike whenever writes are fed
  pub cut_alike : (ws : List Write) (runs : List Contents) → runs ≡ map flushed (memtables base.limit ws) → runs ≡ map flushed (memtables_in now ws)
  cut_alike ws runs are = are ∙ ap (λ limit. map flushed (memtables limit ws)) same_limit

  pub counted_alike : (ws : List Write) (runs : List Contents) → runs ≡ map flushed (memtables base.limit ws) → length runs ≡ length (memtables_in now ws)
  counted_alike ws runs are = ap length (cut_alike ws runs are) ∙ length-map (memtables_in now ws) flushed

-- a reader that had seen all sees one event more
pub one_more : (old seen new : List Event) (e : Event) (before behind : Moment) → IsPrefix old seen → seen ≡ before.events → behind ≡ after_event e before → new ≡ behind.events → EndsWith old e new
one_more old seen new e before behind begins all is now =
    (before.events, subst (λ (es : List Event). IsPrefix old es) all begins, now ∙ ap (λ (s : Moment). s.events) is)
