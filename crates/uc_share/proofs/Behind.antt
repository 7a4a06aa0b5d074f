-- A history followed by more events.
use Rattle.std.proofs.Common.{◌≡◌, List, [], ◌∷◌, ◌++◌, fold, refl, ap, sym, subst, ◌∙◌}
use Rattle.uc_oper.specs.Operation.{Operation}
use Rattle.uc_version_state.specs.Versions.{Stored}
use Rattle.uc_version_state.specs.Openings.{opened}
use Rattle.uc_version_state.specs.declared.event.Event.{Event}
use Rattle.uc_version_state.specs.Histories.{MayFollow, after, History, IsLegal, version_after}

pub follow_joined : (m : Operation) (v : Stored) (es fs : List Event) → MayFollow m v es → MayFollow m (fold after v es) fs → MayFollow m v (es ++ fs)
follow_joined m v [] fs front back = back
follow_joined m v (e ∷ es) fs front back = (front.0, follow_joined m (after v e) es fs front.1 back)

pub after_joined : (v : Stored) (es fs : List Event) → fold after v (es ++ fs) ≡ fold after (fold after v es) fs
after_joined v [] fs = refl
after_joined v (e ∷ es) fs = after_joined (after v e) es fs

-- what follows from the version that a beginning leads to
pub follow_rest : (m : Operation) (v : Stored) (es fs : List Event) → MayFollow m v (es ++ fs) → MayFollow m (fold after v es) fs
follow_rest m v [] fs all = all
follow_rest m v (e ∷ es) fs all = follow_rest m (after v e) es fs all.1

pub legal_behind : (m : Operation) (h : History) (base : Stored) (events : List Event) → IsLegal m h → version_after h ≡ base → MayFollow m base events → IsLegal m (record h { events = h.events ++ events })
legal_behind m h base events legal is may = record {
  opens = legal.opens;
  follow = follow_joined m (opened h.opening) h.events events legal.follow (subst (λ (v : Stored). MayFollow m v events) (sym is) may);
}

pub version_behind : (h : History) (base : Stored) (events : List Event) → version_after h ≡ base → version_after (record h { events = h.events ++ events }) ≡ fold after base events
version_behind h base events is = after_joined (opened h.opening) h.events events ∙ ap (λ (v : Stored). fold after v events) is
