use Rattle.std.proofs.Common.{◌++◌, [], ◌∷◌, fold, sym, subst, arith}
use Rattle.uc_version_state.specs.Versions.{Stored}
use Rattle.uc_version_state.specs.Installs.{IdLeft}
use Rattle.uc_version_state.specs.Machine.{IsMadeFor}
use Rattle.uc_version_state.specs.Histories.{after}
use Rattle.uc_version_state.specs.declared.event.Event.TheVariants.{Installed}
use Rattle.uc_version_state.specs.Openings.{opened}
use Rattle.uc_version_state.specs.Courses.{noted_at}
use Rattle.uc_version_state.specs.Refusals.{AreInPlace}
use Rattle.uc_version_state.specs.Versions.{ids_of}
use Rattle.uc_version_compact.specs.Compacting.{install_for, compaction_at}
use Rattle.uc_version_compact.proofs.InstalledBeside.{made_for, then_installed}
use Rattle.uc_version_compact.proofs.install_laws.two_own_compactions_install_beside_others.Goals as goal

pub returns : goal.returns
returns g c o s t meanwhile look left left_after =
    let m = g.O.Operator.meaning in
    let v = opened o in
    let version = c.opening_gives_a_version.ensures o look.legal.opens in
    let two = look.two in
    let two_more = look.two_more in
    let i = install_for m (noted_at o s) (compaction_at v s) in
    let stays = c.two_compactors_install_beside_others.ensures.stays m o s t meanwhile look in
    let one = made_for m v (fold after v meanwhile) s version
    (c.own_compactions_stay_installable.ensures.may v s meanwhile version (omega (arith, two)) look.within look.legal.follow stays left) in
    let beside = c.two_compactors_install_beside_others.ensures.beside m o s t meanwhile i look one in
    let same = then_installed v meanwhile i in
    let there : AreInPlace (fold after v (meanwhile ++ Installed i ∷ [])) (ids_of (noted_at o t)) = subst (λ (u : Stored). AreInPlace u (ids_of (noted_at o t))) same beside.1 in
    let other = c.own_compactions_stay_installable.ensures.may v t (meanwhile ++ Installed i ∷ []) version (omega (arith, two_more)) look.more_within beside.0.follow there
    (subst IdLeft same left_after) in
    c.two_compactors_install_beside_others.ensures.installs m o s t meanwhile i (install_for m (noted_at o t) (compaction_at v t)) look one
    (subst (λ (u : Stored). IsMadeFor m u (noted_at o t) (install_for m (noted_at o t) (compaction_at v t))) (sym same) (made_for m v (fold after v (meanwhile ++ Installed i ∷ [])) t version other))
