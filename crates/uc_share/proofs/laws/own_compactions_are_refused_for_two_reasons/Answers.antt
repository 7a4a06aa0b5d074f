use Rattle.std.proofs.Common.{◌≡◌, ◌++◌, List, fold, sym, subst}
use Rattle.uc_version_state.specs.Versions.{Stored}
use Rattle.uc_version_state.specs.Histories.{MayFollow, after}
use Rattle.uc_version_state.specs.declared.event.Event.{Event}
use Rattle.uc_version_compact.specs.Compacting.{IsNotInstallable, compaction_at, runs_at}
use Rattle.uc_share.proofs.Behind.{after_joined, follow_rest}
use Rattle.uc_share.proofs.laws.own_compactions_are_refused_for_two_reasons.Goals as goal

pub returns : goal.returns
returns g c base seen now s error is front may some within refused =
    let m = g.O.Operator.meaning in
    let v : Stored = fold after base seen in
    let rest : List Event = front.0 in
    let joined : seen ++ rest ≡ now = front.1 in
    let follow : MayFollow m v rest = follow_rest m base seen rest (subst (λ (es : List Event). MayFollow m base es) (sym joined) may) in
    let leads : fold after base now ≡ fold after v rest = subst (λ (es : List Event). fold after base es ≡ fold after v rest) joined (after_joined base seen rest) in
    c.own_compactions_stay_installable.ensures.refused v s rest error is some within follow
    (subst (λ (w : Stored). IsNotInstallable w (runs_at v s) (compaction_at v s) error) leads refused)
