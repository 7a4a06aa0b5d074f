-- Facts that stay true along a history.
use Rattle.std.proofs.Common.{◌≡◌, ℕ, ◌≤◌, List, [], ◌∷◌, ◌++◌, Contains, inl, inr, ⊎_elim, fold, sym, ap, ◌∙◌, subst, append-nil, arith}
use Rattle.std.specs.Prelude.{None}
use Rattle.std.specs.List.{flat_map}
use Rattle.std.proofs.lemmas.List.{append_assoc}
use Rattle.uc_oper.specs.Operation.{Operation, IsLawful}
use Rattle.uc_oper.specs.Composition.{applied}
use Rattle.uc_bytes.specs.declared.write.Write.{Write}
use Rattle.uc_batch.specs.Rising.{last_of}
use Rattle.uc_model.specs.Meaning.{effect_on, value_of}
use Rattle.uc_model.proofs.MeaningLaws.{effect_gives, effect_continues}
use Rattle.uc_compact.specs.Reading.{IsReadAt}
use Rattle.uc_version_state.specs.Versions.{Stored, IsVersion, writes_in}
use Rattle.uc_version_state.specs.Openings.{opened}
use Rattle.uc_version_state.specs.Feeds.{fed, MayFeed}
use Rattle.uc_version_state.specs.declared.event.Event.{Event}
use Rattle.uc_version_state.specs.declared.event.Event.TheVariants.{Installed, Flushed, Kept, Released}
use Rattle.uc_version_state.specs.Histories.{MayHappen, after, writes_brought, History, MayFollow, IsLegal, version_after, writes_given}
use Rattle.uc_version_state.proofs.Replacing as replacing
use Rattle.uc_version_state.proofs.Installed.{installed_is_version}
use Rattle.uc_version_state.proofs.Memtables.{last_above}
use Rattle.uc_version_state.proofs.Placing.{FlushesAreRuns, FlushesKeepEffects, effects_fed}
use Rattle.uc_version_state.proofs.Fed.{fed_is_version}
use Rattle.uc_version_state.proofs.Snapped.{kept_is_version, released_is_version, among_kept, among_released}

-- a version and writes give each key the same value at each keep, and from the last sequence on
abbrev pub Agree : Operation → Stored → List Write → Type 0
Agree m v ws = (key : List ℕ) (at : ℕ) → IsReadAt v.keeps v.last at → value_of m (writes_in v) key at ≡ value_of m ws key at

module _ (is_run : FlushesAreRuns) (m : Operation) (laws : IsLawful m) where
  pub version_stays : (v : Stored) (e : Event) → IsVersion v → MayHappen m v e → IsVersion (after v e)
  version_stays v (Installed i) is_version may = installed_is_version m laws v i is_version may
  version_stays v (Flushed ws) is_version may = fed_is_version is_run v ws is_version may
  version_stays v Kept is_version may = kept_is_version v is_version
  version_stays v (Released seq) is_version may = released_is_version seq v is_version

  pub versions_stay : (v : Stored) (es : List Event) → IsVersion v → MayFollow m v es → IsVersion (fold after v es)
  versions_stay v [] is_version may = is_version
  versions_stay v (e ∷ es) is_version may = versions_stay (after v e) es (version_stays v e is_version may.0) may.1

  pub is_version : (h : History) → IsLegal m h → IsVersion (opened h.opening) → IsVersion (version_after h)
  is_version h legal opens = versions_stay (opened h.opening) h.events opens legal.follow

  module _ (keeps_effects : FlushesKeepEffects m) where
    -- more writes after writes that agree
    continued : (ws vs : List Write) (more : List Write) (key : List ℕ) (at : ℕ) → value_of m ws key at ≡ value_of m vs key at → value_of m (ws ++ more) key at ≡ value_of m (vs ++ more) key at
    continued ws vs more key at same =
        effect_continues m laws None ws more key at
        ∙ ap (applied m (effect_on m more key at)) same
        ∙ sym (effect_continues m laws None vs more key at)

    fed_value : (v : Stored) (ws : List Write) (key : List ℕ) (at : ℕ) → MayFeed v ws → value_of m (writes_in (fed ws v)) key at ≡ value_of m (writes_in v ++ ws) key at
    fed_value v ws key at may =
        sym (effect_gives m laws None (writes_in (fed ws v)) key at)
        ∙ ap (λ e. applied m e None) (effects_fed is_run v ws may.rising m laws keeps_effects key at)
        ∙ effect_gives m laws None (writes_in v ++ ws) key at

    nothing_brought : (vs : List Write) (key : List ℕ) (at : ℕ) → value_of m vs key at ≡ value_of m (vs ++ []) key at
    nothing_brought vs key at = ap (λ us. value_of m us key at) (sym (append-nil vs))

    agree_on : (v : Stored) (e : Event) (vs : List Write) → IsVersion v → MayHappen m v e → Agree m v vs → Agree m (after v e) (vs ++ writes_brought e)
    agree_on v (Installed i) vs is may agree key at read =
        replacing.value_stays m laws v i is may key at read ∙ agree key at read ∙ nothing_brought vs key at
    agree_on v (Flushed ws) vs is may agree key at read =
        fed_value v ws key at may
        ∙ continued (writes_in v) vs ws key at (agree key at
        (⊎_elim (λ (kept : Contains v.keeps at). inl kept) (λ (le : last_of v.last ws ≤ at). inr (let up = last_above v.last ws may.rising in omega (arith, le, up))) read))
    agree_on v Kept vs is may agree key at read =
        agree key at
        (⊎_elim (λ has. ⊎_elim (λ (kept : Contains v.keeps at). inl kept) (λ (e : at ≡ v.last). inr (omega (arith, e))) (among_kept v.last v.keeps at has)) (λ (le : v.last ≤ at). inr le) read)
        ∙ nothing_brought vs key at
    agree_on v (Released seq) vs is may agree key at read =
        agree key at (⊎_elim (λ has. inl (among_released seq v.keeps at has)) (λ (le : v.last ≤ at). inr le) read) ∙ nothing_brought vs key at

    agree_along : (v : Stored) (es : List Event) (vs : List Write) → IsVersion v → MayFollow m v es → Agree m v vs → Agree m (fold after v es) (vs ++ flat_map writes_brought es)
    agree_along v [] vs is may agree = subst (Agree m v) (sym (append-nil vs)) agree
    agree_along v (e ∷ es) vs is may agree =
        subst (Agree m (fold after (after v e) es)) (append_assoc vs (writes_brought e) (flat_map writes_brought es))
        (agree_along (after v e) es (vs ++ writes_brought e) (version_stays v e is may.0) may.1 (agree_on v e vs is may.0 agree))

    pub read_stays : (h : History) → IsLegal m h → IsVersion (opened h.opening) → ((key : List ℕ) (at : ℕ) → effect_on m (writes_in (opened h.opening)) key at ≡ effect_on m h.opening.writes key at) →
        Agree m (version_after h) (writes_given h)
    read_stays h legal opens effects =
        agree_along (opened h.opening) h.events h.opening.writes opens legal.follow
        (λ key at read.
        sym (effect_gives m laws None (writes_in (opened h.opening)) key at)
        ∙ ap (λ e. applied m e None) (effects key at)
        ∙ effect_gives m laws None h.opening.writes key at)
