-- A stretch's own compaction in a later version: only missing runs and a lack of ids make its install fail.
use Rattle.std.proofs.Common.{◌≡◌, ◌⊎◌, inl, inr, ◌+◌, ◌<◌, ◌≤◌, List, length, fold, refl, sym, ◌∙◌}
use Rattle.std.specs.Prelude.{Some, None}
use Rattle.uc_oper.specs.Operation.{Operation}
use Rattle.uc_compact.specs.Inputs.{Compaction}
use Rattle.uc_version_state.specs.declared.stretch.Stretch.{Stretch}
use Rattle.uc_version_state.specs.Versions.{Stored, IsVersion, ids_of}
use Rattle.uc_version_state.specs.Installs.{KeepsKnown, NothingBelow, IdLeft, terms_of, behind}
use Rattle.uc_version_state.specs.Refusals.{AreInPlace}
use Rattle.uc_version_state.specs.declared.event.Event.{Event}
use Rattle.uc_version_state.specs.Histories.{MayFollow, after}
use Rattle.uc_version_compact.specs.declared.install_error.InstallError.{InstallError}
use Rattle.uc_version_compact.specs.declared.install_error.InstallError.TheVariants.{WrongInputs, WrongKeeps, Stale, IdsSpent, Memory}
use Rattle.uc_version_compact.specs.Compacting.{runs_at, compaction_at, Fits, IsInstallable, IsNotInstallable}
use Rattle.uc_version_compact.proofs.KeepsSince.{keeps_known}
use Rattle.uc_version_compact.proofs.StandingLast.{oldest_last}
use Rattle.uc_version_compact.proofs.OwnKeeps.{none_unknown}

module _ (m : Operation) (v : Stored) (is_version : IsVersion v) (s : Stretch) (some : 0 < s.count) (within : s.first + s.count ≤ length v.runs)
    (es : List Event) (follow : MayFollow m v es) where
  abbrev later : Stored
  later = fold after v es

  abbrev made : Compaction
  made = compaction_at v s

  known : KeepsKnown later.keeps (terms_of made)
  known = keeps_known m v is_version s es follow

  last : NothingBelow (behind (ids_of (runs_at v s)) later.runs) (terms_of made)
  last = oldest_last m v is_version s some within es follow

  fits : Fits later (runs_at v s) made
  fits = record { inputs = refl; oldest = last }

  pub installable_later : AreInPlace later (ids_of (runs_at v s)) → IdLeft later → IsInstallable later (runs_at v s) made
  installable_later there left = record {
    inputs = refl;
    there = record { in_place = there; may = record { keeps_known = known; oldest_last = last; id_left = left } };
  }

  pub refused_later : (error : InstallError) → IsNotInstallable later (runs_at v s) made error → (error ≡ Stale) ⊎ (error ≡ IdsSpent)
  refused_later WrongInputs refused = absurd (refused fits)
  refused_later (WrongKeeps keep) refused =
      let none : None ≡ Some keep = sym (none_unknown (terms_of made) later.keeps known) ∙ refused.1 in absurd cc
  refused_later Stale refused = inl refl
  refused_later IdsSpent refused = inr refl
  refused_later Memory refused = absurd refused

  pub only_ids_later : (error : InstallError) → AreInPlace later (ids_of (runs_at v s)) → IsNotInstallable later (runs_at v s) made error → (error ≡ IdsSpent) × ¬ IdLeft later
  only_ids_later WrongInputs there refused = absurd (refused fits)
  only_ids_later (WrongKeeps keep) there refused =
      let none : None ≡ Some keep = sym (none_unknown (terms_of made) later.keeps known) ∙ refused.1 in absurd cc
  only_ids_later Stale there refused = absurd (refused.2 there)
  only_ids_later IdsSpent there refused = (refl, refused.3)
  only_ids_later Memory there refused = absurd refused
