-- Compactions of two stretches that are installed one after the other.
use Rattle.std.proofs.Common.{◌≡◌, List, [], ◌∷◌, ◌++◌, fold, refl}
use Rattle.uc_oper.specs.Operation.{Operation}
use Rattle.uc_version_state.specs.declared.stretch.Stretch.{Stretch}
use Rattle.uc_version_state.specs.Versions.{Stored, IsVersion}
use Rattle.uc_version_state.specs.Installs.{Install, installed}
use Rattle.uc_version_state.specs.Machine.{IsMadeFor}
use Rattle.uc_version_state.specs.Histories.{after}
use Rattle.uc_version_state.specs.declared.event.Event.{Event}
use Rattle.uc_version_state.specs.declared.event.Event.TheVariants.{Installed}
use Rattle.uc_version_compact.specs.Compacting.{runs_at, compaction_at, install_for, IsInstallable}

-- the install of what may be installed is made for its runs
pub made_for : (m : Operation) (v u : Stored) (s : Stretch) → IsVersion v → IsInstallable u (runs_at v s) (compaction_at v s) → IsMadeFor m u (runs_at v s) (install_for m (runs_at v s) (compaction_at v s))
made_for m v u s version may = record { ids = refl; keeps_rise = version.keeps_rise; may = may.there.may; output_made = refl }

-- an event more
pub then_installed : (v : Stored) (es : List Event) (i : Install) → installed i (fold after v es) ≡ fold after v (es ++ Installed i ∷ [])
then_installed v [] i = refl
then_installed v (e ∷ es) i = then_installed (after v e) es i
