-- An install for a claim is an event that may happen.
use Rattle.std.proofs.Common.{◌≡◌, ℕ, ◌+◌, ◌≤◌, List, length, set, map, refl, sym, ap, ◌∙◌, arith}
use Rattle.std.specs.Prelude.{Option, None}
use Rattle.uc_oper.specs.Operation.{Operation}
use Rattle.uc_compact.specs.Inputs.{Compaction, Stand}
use Rattle.uc_compact.specs.Output.{output_of}
use Rattle.uc_version_state.specs.Versions.{Stored, IsVersion, contents_of}
use Rattle.uc_version_state.specs.Installs.{Install, MayInstall, replaced, installed}
use Rattle.uc_version_state.proofs.Found.{first_is, count_is, standing_is}
use Rattle.uc_version.specs.declared.held_stretch.HeldStretch.{HeldStretch}
use Rattle.uc_version.specs.Owners.{Owner, runs_held}
use Rattle.uc_version.specs.Claiming.{Claim}
use Rattle.uc_version.specs.Installing.{stretch_of, MayReplace, moved_up, after_install, install_of}
use Rattle.uc_version_compact.proofs.Fitting.{may_install}
use Rattle.uc_version_compact.proofs.PartSlots.{part_length}

module _ (m : Operation) (v : Stored) (is_version : IsVersion v) (h : HeldStretch) (two : 2 ≤ h.count) (within : h.first + h.count ≤ length v.runs)
    (made : Compaction) (stand : Stand made.inputs made.keeps) (may : MayReplace v h made) where
  abbrev i : Install
  i = install_of m v h made

  pub is_legal : MayInstall m v i
  is_legal =
      may_install m v (runs_held v h) made (let e = part_length v.runs h.first h.count within in omega (arith, e, two)) stand
      (ap contents_of (standing_is v is_version i.ids h.first h.count (omega (arith, two)) within refl)) may

  pub is_replaced : installed i v ≡ replaced h.first h.count (output_of m made) v
  is_replaced =
      ap (λ n. replaced n (length i.ids) (output_of m made) v) (first_is v is_version i.ids h.first h.count (omega (arith, two)) within refl)
      ∙ ap (λ n. replaced h.first n (output_of m made) v) (count_is v is_version i.ids h.first h.count (omega (arith, two)) within refl)

-- what an install leaves of the owner, by its parts
pub install_is : (m : Operation) (o : Owner) (c : Claim) (made : Compaction) (h : HeldStretch) (n : ℕ) (w : Stored) (cs : List (Option HeldStretch)) →
    stretch_of o c ≡ h → n ≡ c.number → w ≡ replaced h.first h.count (output_of m made) o.version → cs ≡ map (moved_up h.first h.count) (set o.claims n None) →
    record o { version = w; claims = cs } ≡ after_install m o c made
install_is m o c made h n w cs stretch number version claims =
    ap (λ (v : Stored). record o { version = v; claims = cs }) version
    ∙ ap (λ (ds : List (Option HeldStretch)). record o { version = replaced h.first h.count (output_of m made) o.version; claims = ds }) claims
    ∙ ap (λ k. record o { version = replaced h.first h.count (output_of m made) o.version; claims = map (moved_up h.first h.count) (set o.claims k None) }) number
    ∙ ap (λ (g : HeldStretch). record o { version = replaced g.first g.count (output_of m made) o.version; claims = map (moved_up g.first g.count) (set o.claims c.number None) }) (sym stretch)
