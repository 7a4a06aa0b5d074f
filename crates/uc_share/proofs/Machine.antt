-- The machine of compactors' steps asks what the store asks.
use Rattle.std.proofs.Common.{◌≡◌, ℕ, ◌==◌, ◌&&◌, true, List, [], ◌∷◌, refl, ap, subst, ◌∙◌}
use Rattle.std.proofs.lemmas.Bool.{eq-eqb, eqb-true, and_parts}
use Rattle.uc_oper.specs.Operation.{Operation}
use Rattle.uc_compact.specs.Inputs.{Compaction, Stand}
use Rattle.uc_compact.specs.Output.{output_of}
use Rattle.uc_version_state.specs.Versions.{PlacedRun, Stored, ids_of}
use Rattle.uc_version_state.specs.Installs.{MayReplace, behind, standing, terms_of}
use Rattle.uc_version_state.specs.Refusals.{AreInPlace}
use Rattle.uc_version_compact.specs.Compacting.{IsInstallable, install_for}
use Rattle.uc_version_state.specs.Machine.{IsMadeFor, compaction_for, have_ids, still_stand}

has_ids : (ps : List PlacedRun) (ids : List ℕ) → have_ids ps ids ≡ true → ids_of ps ≡ ids
has_ids [] [] e = refl
has_ids [] (id ∷ ids) e = cc (e)
has_ids (p ∷ ps) [] e = cc (e)
has_ids (p ∷ ps) (id ∷ ids) e =
    let parts = and_parts (p.id == id) (have_ids ps ids) e in
    let head : p.id ≡ id = eqb-true p.id id parts.0 in
    let tail : ids_of ps ≡ ids = has_ids ps ids parts.1 in
    cc (head, tail)

own_ids : (ps : List PlacedRun) → have_ids ps (ids_of ps) ≡ true
own_ids [] = refl
own_ids (p ∷ ps) = ap (λ b. b && have_ids ps (ids_of ps)) (eq-eqb p.id p.id refl) ∙ own_ids ps

pub in_place : (noted : List PlacedRun) (v : Stored) → still_stand noted v ≡ true → AreInPlace v (ids_of noted)
in_place noted v e = has_ids (standing (ids_of noted) v.runs) (ids_of noted) e

pub stand_still : (noted : List PlacedRun) (v : Stored) → AreInPlace v (ids_of noted) → still_stand noted v ≡ true
stand_still noted v same =
    let runs = standing (ids_of noted) v.runs in
    subst (λ (ids : List ℕ). have_ids runs ids ≡ true) same (own_ids runs)

pub made_for : (m : Operation) (v : Stored) (noted : List PlacedRun) (made : Compaction) → Stand made.inputs made.keeps → IsInstallable v noted made → IsMadeFor m v noted (install_for m noted made)
made_for m v noted made stand may =
    let same : made ≡ compaction_for noted (install_for m noted made) = ap (λ inputs. record made { inputs = inputs }) may.inputs in record {
      ids = refl;
      keeps_rise = stand.keeps_rise;
      may = subst (λ (c : Compaction). MayReplace v (behind (ids_of noted) v.runs) (terms_of c)) same may.there.may;
      output_made = ap (output_of m) same;
    }
