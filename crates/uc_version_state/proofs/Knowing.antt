-- Facts of a history without a run.
use Rattle.std.proofs.Common.{◌≡◌, ℕ, List, [], ◌∷◌, ◌++◌, fold, refl, sym, ap, ◌∙◌, subst, append-nil}
use Rattle.std.specs.List.{flat_map}
use Rattle.std.proofs.lemmas.List.{append_assoc}
use Rattle.uc_oper.specs.Operation.{Operation}
use Rattle.uc_bytes.specs.declared.write.Write.{Write}
use Rattle.uc_batch.specs.Rising.{IsRising, last_of}
use Rattle.uc_version_state.specs.Versions.{Stored}
use Rattle.uc_version_state.specs.Openings.{opened}
use Rattle.uc_version_state.specs.Snapshots.{with_keep, without_keep}
use Rattle.uc_version_state.specs.declared.event.Event.{Event}
use Rattle.uc_version_state.specs.declared.event.Event.TheVariants.{Installed, Flushed, Kept, Released}
use Rattle.uc_version_state.specs.Histories.{MayHappen, after, writes_brought, History, MayFollow, IsLegal, version_after, writes_given, Known, known_after, known_at_first, known}

-- what is known is true of a version
pub record IsKnown (k : Known) (v : Stored) : Type 0 where
  pub rising : IsRising 0 k.writes
  pub last : last_of 0 k.writes ≡ v.last
  pub keeps : k.keeps ≡ v.keeps

rising_behind : (last : ℕ) (ws vs : List Write) → IsRising last ws → IsRising (last_of last ws) vs → IsRising last (ws ++ vs)
rising_behind last [] vs h more = more
rising_behind last (w ∷ ws) vs h more = (h.0, h.1, rising_behind w.seq ws vs h.2 more)

last_behind : (last : ℕ) (ws vs : List Write) → last_of last (ws ++ vs) ≡ last_of (last_of last ws) vs
last_behind last [] vs = refl
last_behind last (w ∷ ws) vs = last_behind w.seq ws vs

module _ (m : Operation) where
  known_on : (k : Known) (v : Stored) (e : Event) → MayHappen m v e → IsKnown k v → IsKnown (known_after k e) (after v e)
  known_on k v (Installed i) may is = record { rising = is.rising; last = is.last; keeps = is.keeps }
  known_on k v (Flushed ws) may is = record {
    rising = rising_behind 0 k.writes ws is.rising (subst (λ n. IsRising n ws) (sym is.last) may.rising);
    last = last_behind 0 k.writes ws ∙ ap (λ n. last_of n ws) is.last;
    keeps = is.keeps;
  }
  known_on k v Kept may is = record {
    rising = is.rising;
    last = is.last;
    keeps = ap (λ n. with_keep n k.keeps) is.last ∙ ap (λ (ks : List ℕ). with_keep v.last ks) is.keeps;
  }
  known_on k v (Released seq) may is = record { rising = is.rising; last = is.last; keeps = ap (λ (ks : List ℕ). without_keep seq ks) is.keeps }

  known_along : (k : Known) (v : Stored) (es : List Event) → MayFollow m v es → IsKnown k v → IsKnown (fold known_after k es) (fold after v es)
  known_along k v [] may is = is
  known_along k v (e ∷ es) may is = known_along (known_after k e) (after v e) es may.1 (known_on k v e may.0 is)

  pub is_known : (h : History) → IsLegal m h → IsKnown (known h) (version_after h)
  is_known h legal = known_along (known_at_first h.opening) (opened h.opening) h.events legal.follow (record { rising = legal.opens.rising; last = refl; keeps = refl })

brought_on : (k : Known) (e : Event) → (known_after k e).writes ≡ k.writes ++ writes_brought e
brought_on k (Installed i) = sym (append-nil k.writes)
brought_on k (Flushed ws) = refl
brought_on k Kept = sym (append-nil k.writes)
brought_on k (Released seq) = sym (append-nil k.writes)

brought_along : (k : Known) (es : List Event) → (fold known_after k es).writes ≡ k.writes ++ flat_map writes_brought es
brought_along k [] = sym (append-nil k.writes)
brought_along k (e ∷ es) =
    brought_along (known_after k e) es
    ∙ ap (λ ws. ws ++ flat_map writes_brought es) (brought_on k e)
    ∙ append_assoc k.writes (writes_brought e) (flat_map writes_brought es)

pub writes_known : (h : History) → (known h).writes ≡ writes_given h
writes_known h = brought_along (known_at_first h.opening) h.events
