use Rattle.std.proofs.Common.{◌≡◌, not, subst}
use Rattle.uc_version_state.specs.Installs.{Terms}
use Rattle.uc_version_state.specs.Refusals as refusals
use Rattle.uc_version_state.proofs.KnownKeeps.{unknown_if}
use Rattle.uc_version_state.proofs.refusing.is_unknown.Goals as goal

pub returns-then-keep-terms : goal.returns-then-keep-terms
returns-then-keep-terms c =
    let inside = c.terms.inside in
    let seen : Terms = record { keeps = inside.keeps.now; oldest = inside.oldest; high = inside.high } in
    subst (λ (t : Terms). not c.is_among.result ≡ refusals.is_unknown t c.args.keep) c.terms.view_is
    (unknown_if seen c.args.keep c.is_among.result c.if-keep-terms.true c.is_among.ensures)
