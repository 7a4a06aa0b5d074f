-- Claims keep their runs.
use Rattle.std.proofs.Common.{◌≡◌, ◌≢◌, ℕ, Bool, true, false, eqb, ◌&&◌, get_or, refl, sym, ◌∙◌, subst, arith}
use Rattle.std.specs.Prelude.{Option, Some, None}
use Rattle.std.proofs.lemmas.Bool.Decides.{nat_tests}
use Rattle.uc_oper.specs.Operation.{Operation}
use Rattle.uc_compact.specs.Inputs.{Compaction}
use Rattle.uc_compact.specs.Output.{output_of}
use Rattle.uc_version_state.specs.Versions.{Stored, ids_of}
use Rattle.uc_version_state.specs.Installs.{newest_id}
use Rattle.uc_version.specs.declared.held_stretch.HeldStretch.{HeldStretch}
use Rattle.uc_version.specs.Owners.{Owner, IsOwner, Stands, last_id, runs_held, claimed_slots}
use Rattle.uc_version.specs.Claiming.{Claim, has_ids, is_held}
use Rattle.uc_version.specs.Installing.{stretch_in, stretch_of, claimed_runs, after_install}
use Rattle.uc_version.proofs.HeldClaims.{all_at, held_below}
use Rattle.uc_version.proofs.Moving.{runs_in, keeps_runs}
use Rattle.uc_version.proofs.Staying.{held_is}

runs_of_found : (v : Stored) (found : Option HeldStretch) → runs_in v found ≡ runs_held v (stretch_in found)
runs_of_found v None = refl
runs_of_found v (Some h) = refl

-- a claim that is held has the ids that its stretch notes
own_ids : (h : HeldStretch) (c : Claim) → has_ids (Some h) c ≡ true → (c.newest ≡ h.newest) × (c.oldest ≡ h.oldest)
own_ids h c held = both (eqb h.newest c.newest) (eqb h.oldest c.oldest) refl refl held
  where
    same : (a b : ℕ) → eqb a b ≡ true → b ≡ a
    same a b e = let is : a ≡ b = grind (arith, nat_tests) in sym is

    both : (a b : Bool) → eqb h.newest c.newest ≡ a → eqb h.oldest c.oldest ≡ b → (a && b) ≡ true → (c.newest ≡ h.newest) × (c.oldest ≡ h.oldest)
    both true true ea eb e = (same h.newest c.newest ea, same h.oldest c.oldest eb)
    both true false ea eb e = absurd cc
    both false b ea eb e = absurd cc

pub claim_notes : (o : Owner) (c : Claim) → IsOwner o → is_held o c ≡ true → (c.newest ≡ newest_id (ids_of (claimed_runs o c))) × (c.oldest ≡ last_id (ids_of (claimed_runs o c)))
claim_notes o c is_owner held =
    let found = held_is o c held in
    let h = stretch_of o c in
    let stand = subst (Stands o.version) found (all_at o.version (Stands o.version) o.claims c.number is_owner.stand (held_below o.version o.claims c.number h found)) in
    let ids = own_ids h c (subst (λ (x : Option HeldStretch). has_ids x c ≡ true) found held) in
    (ids.0 ∙ stand.2.0, ids.1 ∙ stand.2.1)

pub kept : (m : Operation) (o : Owner) (c other : Claim) (made : Compaction) → IsOwner o → is_held o c ≡ true → is_held o other ≡ true → other.number ≢ c.number →
    claimed_runs (after_install m o c made) other ≡ claimed_runs o other
kept m o c other made is_owner held other_held apart =
    sym (runs_of_found (after_install m o c made).version (get_or (after_install m o c made).claims other.number None))
    ∙ keeps_runs o is_owner (claimed_slots o) (λ k. refl) c.number (stretch_of o c) (held_is o c held) (output_of m made) other.number (stretch_of o other) (λ e. apart (sym e)) (held_is o other other_held)
