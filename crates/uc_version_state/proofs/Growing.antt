-- A history with an event more.
use Rattle.std.proofs.Common.{◌≡◌, List, [], ◌∷◌, ◌++◌, fold, refl}
use Rattle.uc_oper.specs.Operation.{Operation}
use Rattle.uc_version_state.specs.Versions.{Stored}
use Rattle.uc_version_state.specs.declared.event.Event.{Event}
use Rattle.uc_version_state.specs.Histories.{MayHappen, MayFollow, after}

pub follow-append : (m : Operation) (v : Stored) (es : List Event) (e : Event) → MayFollow m v es → MayHappen m (fold after v es) e → MayFollow m v (es ++ e ∷ [])
follow-append m v [] e may last = (last, tt)
follow-append m v (f ∷ fs) e may last = (may.0, follow-append m (after v f) fs e may.1 last)

pub after-append : (v : Stored) (es : List Event) (e : Event) → fold after v (es ++ e ∷ []) ≡ after (fold after v es) e
after-append v [] e = refl
after-append v (f ∷ fs) e = after-append (after v f) fs e
