-- A compaction that fits may be installed.
use Rattle.std.proofs.Common.{◌≡◌, ◌≤◌, List, length, sym, ap, ◌∙◌, subst, arith}
use Rattle.std.proofs.lemmas.List.{length-map}
use Rattle.uc_oper.specs.Operation.{Operation}
use Rattle.uc_run_entry.specs.Run.{Contents}
use Rattle.uc_compact.specs.Inputs.{Compaction, Stand, high_of}
use Rattle.uc_compact.specs.Output.{output_of}
use Rattle.uc_version_state.specs.Versions.{PlacedRun, Stored, contents_of, ids_of}
use Rattle.uc_version_state.specs.Installs.{MayInstall, MayReplace as MayBeReplaced, standing, older_in}
use Rattle.uc_version_compact.specs.Compacting.{IsInstallable, install_for}

-- what is installable may be installed, where the runs that stand there are those that were claimed
pub may_install : (m : Operation) (v : Stored) (claimed : List PlacedRun) (made : Compaction) → 2 ≤ length claimed → Stand made.inputs made.keeps →
    contents_of (standing (ids_of claimed) v.runs) ≡ contents_of claimed → IsInstallable v claimed made → MayInstall m v (install_for m claimed made)
may_install m v claimed made two stand same fits =
    let i = install_for m claimed made in
    let inputs : made.inputs ≡ contents_of (standing (ids_of claimed) v.runs) = fits.inputs ∙ sym same in
    record {
      two = let e = length-map claimed (λ (p : PlacedRun). p.id) in omega (arith, e, two);
      neighbours = fits.there.in_place;
      keeps_rise = stand.keeps_rise;
      may = subst (λ (rs : List Contents). MayBeReplaced v (older_in i v) (record { keeps = made.keeps; oldest = made.oldest; high = high_of rs })) inputs fits.there.may;
      output_made = ap (λ (rs : List Contents). output_of m (record { inputs = rs; keeps = made.keeps; oldest = made.oldest })) inputs;
    }
