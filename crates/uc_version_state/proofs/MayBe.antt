-- An event that isn't rejected may happen.
use Rattle.std.proofs.Common.{◌≡◌, ap, subst}
use Rattle.std.specs.Prelude.{Option, Some, None, IfNone}
use Rattle.uc_oper.specs.Operation.{Operation}
use Rattle.uc_run_entry.specs.Run.{Contents}
use Rattle.uc_compact.specs.Inputs.{high_of}
use Rattle.uc_version_state.specs.Versions.{Stored, contents_of}
use Rattle.uc_version_state.specs.declared.refusal.Refusal.{Refusal}
use Rattle.uc_version_state.specs.Installs.{Install, MayInstall, MayReplace, inputs_in, older_in}
use Rattle.uc_version_state.specs.HeldInstalls.{IsInstall}
use Rattle.uc_version_state.specs.Refusals.{AreReplaceable, IsMade, terms_in}

-- an install whose runs may be replaced, and whose output is what they become
pub may_install : (m : Operation) (v : Stored) (i : Install) → IsInstall i → AreReplaceable v i.ids (terms_in i) → IsMade m v i → MayInstall m v i
may_install m v i is_install fits made =
    let high : i.output.high ≡ high_of (contents_of (inputs_in i v)) = ap (λ (run : Contents). run.high) made in
    record {
      two = is_install.two;
      neighbours = fits.in_place;
      keeps_rise = is_install.keeps_rise;
      may = subst (λ n. MayReplace v (older_in i v) (record { keeps = i.keeps; oldest = i.oldest; high = n })) high fits.may;
      output_made = made;
    }

pub may_be : (v : Stored) (i : Install) → IsInstall i → (found : Option Refusal) → IfNone found (AreReplaceable v i.ids (terms_in i)) →
    IfNone found ((m : Operation) → IsMade m v i → MayInstall m v i)
may_be v i is_install None fits = λ m made. may_install m v i is_install fits made
may_be v i is_install (Some refusal) fits = fits
