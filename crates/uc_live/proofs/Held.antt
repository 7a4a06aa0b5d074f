-- The invariant of a live store is kept.
use Rattle.std.proofs.Common.{◌≡◌, ℕ, ◌-◌, ◌^◌, ◌<◌, List, [], ◌++◌, Option, Some, None, refl, sym, ap, ◌∙◌, subst, arith}
use Rattle.std.specs.Prelude.{IfSome}
use Rattle.std.proofs.lemmas.List.{append-nil}
use Rattle.uc_bytes.specs.declared.write.Write.{Write}
use Rattle.uc_oper.specs.Operation.{Operation}
use Rattle.uc_batch.specs.Rising.{IsRising}
use Rattle.uc_run.specs.Size.{memtable_size}
use Rattle.uc_memtable.specs.Gathering.{Gathered}
use Rattle.uc_memtable.proofs.RisingParts.{rising_front}
use Rattle.uc_version_state.specs.declared.stretch.Stretch.{Stretch}
use Rattle.uc_version_state.specs.Picks.{picked}
use Rattle.uc_version_state.specs.declared.options.Options.{Options}
use Rattle.uc_version_state.proofs.Filling.{grows_by}
use Rattle.uc_version_compact.specs.Picking.{candidates_of}
use Rattle.uc_version.specs.Owners.{Owner, is_busy}
use Rattle.uc_version.specs.Feeding.{after_feed}
use Rattle.uc_version.specs.AtOnce.{after_compaction}
use Rattle.uc_live.specs.declared.live_store.LiveStore.TheInside.{Inside}
use Rattle.uc_live.specs.HeldLives.{IsLive, live}
use Rattle.uc_live.specs.Compacting.{next_stretch}
use Rattle.uc_live.specs.Lives.{Live}
use Rattle.uc_live.specs.Going.{GoesOn}
use Rattle.uc_live.proofs.Holding.{same_held}
use Rattle.uc_live.proofs.Going.{follows_none, lets_stay}

-- ---- lists of writes

rising-first : (last : ℕ) (ws vs : List Write) → IsRising last (ws ++ vs) → IsRising last (ws ++ [])
rising-first last ws vs h = subst (λ (us : List Write). IsRising last us) (sym (append-nil ws)) (rising_front last ws vs h)

pub size-part : (n : ℕ) (ws vs : List Write) → memtable_size (ws ++ vs) < n → memtable_size ws < n
size-part n ws vs lt = let le = grows_by ws vs in omega (arith, le, lt)

pub size-first : (n : ℕ) (ws vs : List Write) → memtable_size (ws ++ vs) < n → memtable_size (ws ++ []) < n
size-first n ws vs lt = subst (λ (us : List Write). memtable_size us < n) (sym (append-nil ws)) (size-part n ws vs lt)

-- what leaves is set apart as before
leaves_as : (leaving : Option ℕ) (apart apart' : ℕ) → apart' ≡ apart → IfSome leaving (λ n. apart ≡ n) → IfSome leaving (λ n. apart' ≡ n)
leaves_as None apart apart' same leaves = tt
leaves_as (Some n) apart apart' same leaves = same ∙ leaves

-- ---- stores

module _ {O : Type 0} (i : Inside O) (is : IsLive i) where
  pub unprepared_is : (active : Gathered) → active ≡ record i.active { waiting = [] } → IsLive (record i { active = active })
  unprepared_is active e = subst (λ (a : Gathered). IsLive (record i { active = a })) (sym e) (record {
    options_good = is.options_good;
    options_are = is.options_are;
    whole = is.whole;
    small = size-first (2 ^ 64 - 1) i.active.shown i.active.waiting is.small;
    rising = rising-first i.owned.version.last i.active.shown i.active.waiting is.rising;
    leaves = is.leaves;
    taken = is.taken;
  })

  -- more waits
  pub prepared_is : (active : Gathered) → active.apart ≡ i.active.apart → memtable_size (active.shown ++ active.waiting) < 2 ^ 64 - 1 → IsRising i.owned.version.last (active.shown ++ active.waiting) → IsLive (record i { active = active })
  prepared_is active apart small rising = record {
    options_good = is.options_good;
    options_are = is.options_are;
    whole = is.whole;
    small = small;
    rising = rising;
    leaves = leaves_as i.leaving i.active.apart active.apart apart is.leaves;
    taken = is.taken;
  }

  -- a failure changes nothing
  pub same_is : (owned : Owner) → owned ≡ i.owned → IsLive (record i { owned = owned })
  same_is owned e = subst (λ (o : Owner). IsLive (record i { owned = o })) (sym e) is

  -- the memtables became a run
  pub flushed_is : (owned : Owner) (active : Gathered) → owned ≡ after_feed i.active.shown i.owned → active ≡ record { shown = []; waiting = []; apart = 0 } → IsLive (record i { owned = owned; active = active; leaving = None })
  flushed_is owned active e none = subst (λ (o : Owner). IsLive (record i { owned = o; active = active; leaving = None })) (sym e)
      (subst (λ (a : Gathered). IsLive (record i { owned = after_feed i.active.shown i.owned; active = a; leaving = None })) (sym none) (record {
        options_good = is.options_good;
        options_are = is.options_are;
        whole = is.whole;
        small = omega arith;
        rising = tt;
        leaves = tt;
        taken = is.taken;
      }))

  -- runs were compacted
  pub compacted_is : (m : Operation) (s : Stretch) (owned : Owner) → owned ≡ after_compaction m i.owned s → IsLive (record i { owned = owned })
  compacted_is m s owned e = subst (λ (o : Owner). IsLive (record i { owned = o })) (sym e) (record {
    options_good = is.options_good;
    options_are = is.options_are;
    whole = is.whole;
    small = is.small;
    rising = is.rising;
    leaves = is.leaves;
    taken = is.taken;
  })

  -- what is picked next
  pub next_is : picked i.owned.options (candidates_of i.owned.version (is_busy i.owned)) ≡ next_stretch (live i)
  next_is = ap (λ (o : Options). picked o (candidates_of i.owned.version (is_busy i.owned))) is.options_are

-- ---- the prepared batch is discarded

-- no read changes
pub unprepared_goes : {O : Type 0} (m : Operation) (i : Inside O) (now : Live) → live i ≡ now → (active : Gathered) → active ≡ record i.active { waiting = [] } → GoesOn m now (live (record i { active = active })) []
unprepared_goes m i now view active e =
    let here : GoesOn m (live i) (live (record i { active = record i.active { waiting = [] } })) [] = (follows_none m i.owned.version i.active.shown, refl, refl, same_held i.owned, refl, lets_stay (live i) i.active.shown (sym (append-nil i.active.shown))) in
    subst (λ (l : Live). GoesOn m l (live (record i { active = active })) []) view
    (subst (λ (a : Gathered). GoesOn m (live i) (live (record i { active = a })) []) (sym e) here)
