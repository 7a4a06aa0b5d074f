-- An opening results in a version, which means its writes.
use Rattle.std.proofs.Common.{◌≡◌, ℕ, ◌≤◌, Bool, true, false, List, [], ◌∷◌, ◌++◌, refl, arith, leb-true}
use Rattle.std.specs.Prelude.{◌&&◌}
use Rattle.uc_oper.specs.Operation.{Operation, IsLawful}
use Rattle.uc_batch.specs.Rising.{last_of}
use Rattle.uc_model.specs.Meaning.{effect_on}
use Rattle.uc_compact.proofs.NestedLists.{all-append}
use Rattle.uc_version_state.specs.declared.options.Options.{Options}
use Rattle.uc_version_state.specs.declared.options.TheConstants.{GREATEST_FIRST_ID}
use Rattle.uc_version_state.specs.Options.{are_good}
use Rattle.uc_version_state.specs.Versions.{IsVersion, writes_in}
use Rattle.uc_version_state.specs.Openings.{Opening, MayOpen, unwritten, opened}
use Rattle.uc_version_state.proofs.Kept.{all_kept, in_order}
use Rattle.uc_version_state.proofs.Memtables.{last_limit}
use Rattle.uc_version_state.proofs.Placing.{FlushesAreRuns, FlushesKeepEffects, ArePlaced, placed_by, effects_fed}

and_first : (a b : Bool) → (a && b) ≡ true → a ≡ true
and_first true b e = refl
and_first false b e = absurd cc

and_last : (a b : Bool) → (a && b) ≡ true → b ≡ true
and_last true b e = e
and_last false b e = absurd cc

-- the size from which a memtable is full isn't 0 under good options
pub limit_good : (o : Options) → are_good o ≡ true → 1 ≤ o.memtable
limit_good o good = leb-true 1 o.memtable (and_first _ _ (and_first _ _ (and_first _ _ (and_first _ _ (and_first _ _ good)))))

pub first_id_good : (o : Options) → are_good o ≡ true → o.first_id ≤ GREATEST_FIRST_ID
first_id_good o good = leb-true o.first_id GREATEST_FIRST_ID (and_last _ _ good)

module _ (is_run : FlushesAreRuns) (o : Opening) (may : MayOpen o) where
  placed : ArePlaced (opened o).next_id (opened o).last (opened o).runs
  placed =
      placed_by is_run (unwritten o) o.writes may.rising (let le = may.few in omega (arith, le))
      (record { runs_are = tt; newest_first = tt; below = tt; slots_apart = tt; slots_below = tt; ids_apart = tt; ids_given = tt })

  pub opened_is_version : IsVersion (opened o)
  opened_is_version = record {
    runs = placed.runs_are;
    newest_first = placed.newest_first;
    below = placed.below;
    keeps_rise = in_order o;
    keeps_below = all_kept (λ k. k ≤ last_of 0 o.writes) (o.keeps ++ last_of 0 o.writes ∷ []) [] (all-append (λ k. k ≤ last_of 0 o.writes) o.keeps (last_of 0 o.writes ∷ []) may.keeps_below (omega arith, tt)) tt;
    last_below = last_limit 0 o.writes (omega arith) may.rising;
    slots_apart = placed.slots_apart;
    slots_below = placed.slots_below;
    ids_apart = placed.ids_apart;
    ids_given = placed.ids_given;
    id_below = let le = may.few in let limit = first_id_good o.options may.options_good in omega (arith, le, limit);
    limit_some = limit_good o.options may.options_good;
  }

  module _ (m : Operation) (laws : IsLawful m) (keeps_effects : FlushesKeepEffects m) where
    pub effects_stay : (key : List ℕ) (at : ℕ) → effect_on m (writes_in (opened o)) key at ≡ effect_on m o.writes key at
    effects_stay key at = effects_fed is_run (unwritten o) o.writes may.rising m laws keeps_effects key at
