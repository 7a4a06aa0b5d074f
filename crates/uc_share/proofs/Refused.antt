-- Facts about an install that follow from a version's refusal.
use Rattle.std.proofs.Common.{◌≡◌, ◌≢◌, List, refl, sym, subst}
use Rattle.uc_compact.specs.Inputs.{Compaction}
use Rattle.uc_version_state.specs.Versions.{PlacedRun, Stored, contents_of, ids_of}
use Rattle.uc_version_state.specs.Installs.{terms_of}
use Rattle.uc_version_state.specs.Refusals.{IsRefused}
use Rattle.uc_version_state.specs.declared.refusal.Refusal.{Refusal}
use Rattle.uc_version_state.specs.declared.refusal.Refusal.TheVariants as refusal
use Rattle.uc_version_compact.specs.Compacting.{Fits, IsInstallable, IsNotInstallable, error_of}
use Rattle.uc_version_compact.specs.declared.install_error.InstallError.{InstallError}
use Rattle.uc_version_compact.specs.declared.install_error.InstallError.TheVariants.{WrongInputs, WrongKeeps, Stale, IdsSpent, Memory}
use Rattle.uc_share.specs.Installing.{IsOwnRefusal, ShowsRefusal}

not_installable : (v : Stored) (claimed : List PlacedRun) (made : Compaction) (r : Refusal) → made.inputs ≡ contents_of claimed → IsRefused v (ids_of claimed) (terms_of made) r → IsNotInstallable v claimed made (error_of r)
not_installable v claimed made refusal.OlderBehind inputs h = λ (fits : Fits v claimed made). h fits.oldest
not_installable v claimed made (refusal.UnknownKeep keep) inputs h = (record { inputs = inputs; oldest = h.0 }, h.1)
not_installable v claimed made refusal.NotInPlace inputs h = (record { inputs = inputs; oldest = h.0 }, h.1, h.2)
not_installable v claimed made refusal.IdsSpent inputs h = (record { inputs = inputs; oldest = h.0 }, h.1, h.2, h.3)

no_memory : (r : Refusal) → error_of r ≢ Memory
no_memory refusal.OlderBehind e = cc (e)
no_memory (refusal.UnknownKeep keep) e = cc (e)
no_memory refusal.NotInPlace e = cc (e)
no_memory refusal.IdsSpent e = cc (e)

-- a refusal by the version that the reader then has seen is shown by it
pub refusal_shown : (v seen : Stored) (claimed : List PlacedRun) (made : Compaction) (r : Refusal) → seen ≡ v → made.inputs ≡ contents_of claimed → IsRefused v (ids_of claimed) (terms_of made) r → ShowsRefusal seen claimed made (error_of r)
refusal_shown v seen claimed made r same inputs h = record {
  shown = λ _. subst (λ (w : Stored). IsNotInstallable w claimed made (error_of r)) (sym same) (not_installable v claimed made r inputs h);
  else_memory = λ e. absurd (no_memory r e);
}

-- want of memory where nothing else is against it
pub memory_shown : (v seen : Stored) (claimed : List PlacedRun) (made : Compaction) → seen ≡ v → IsInstallable v claimed made → ShowsRefusal seen claimed made Memory
memory_shown v seen claimed made same may = record {
  shown = λ not. absurd (not refl);
  else_memory = λ _. subst (λ (w : Stored). IsInstallable w claimed made) (sym same) may;
}

-- ---- what the claimed runs themselves were compacted to

-- the version shows one of two reasons, or allocation failed
pub own_shown : (v : Stored) (claimed : List PlacedRun) (made : Compaction) (error : InstallError) → ShowsRefusal v claimed made error → ((e : InstallError) → IsNotInstallable v claimed made e → IsOwnRefusal e) → IsOwnRefusal error
own_shown v claimed made WrongInputs h law = law WrongInputs (h.shown (λ e. cc (e)))
own_shown v claimed made (WrongKeeps keep) h law = law (WrongKeeps keep) (h.shown (λ e. cc (e)))
own_shown v claimed made Stale h law = tt
own_shown v claimed made IdsSpent h law = tt
own_shown v claimed made Memory h law = tt
