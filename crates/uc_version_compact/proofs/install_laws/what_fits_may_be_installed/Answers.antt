use Rattle.uc_version_compact.proofs.Fitting.{may_install}
use Rattle.uc_version_compact.proofs.install_laws.what_fits_may_be_installed.Goals as goal

pub returns : goal.returns
returns g c v claimed made two stand same fits = may_install g.O.Operator.meaning v claimed made two stand same fits
