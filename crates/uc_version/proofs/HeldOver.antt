-- A claim is held on over the compaction of another stretch.
use Rattle.std.proofs.Common.{◌≡◌, true, ◌∙◌, subst}
use Rattle.std.specs.Prelude.{None}
use Rattle.uc_oper.specs.Operation.{Operation}
use Rattle.uc_version_state.specs.declared.stretch.Stretch.{Stretch}
use Rattle.uc_version_state.specs.Installs.{IdLeft}
use Rattle.uc_version.specs.Owners.{Owner, IsOwner}
use Rattle.uc_version.specs.Claiming.{Claim, is_held, claim_refusal, claim_of, with_claim}
use Rattle.uc_version.specs.Installing.{stretch_of, claimed_runs, compaction_of}
use Rattle.uc_version.specs.AtOnce.{after_compaction}
use Rattle.uc_version.proofs.CompactedNow.{at_once}
use Rattle.uc_version.proofs.HeldOn.{held_over_a_claim, held_over_an_install}
use Rattle.uc_version.proofs.KeptClaims.{kept}
use Rattle.uc_version.proofs.Staying.{claim_is_held, claimed_stays}

-- it keeps its runs
pub held_over : (m : Operation) (o : Owner) → IsOwner o → (s : Stretch) → claim_refusal o s ≡ None → IdLeft o.version →
    (other : Claim) → is_held o other ≡ true →
    (is_held (after_compaction m o s) other ≡ true) × (claimed_runs (after_compaction m o s) other ≡ claimed_runs o other)
held_over m o is_owner s fine left other held =
    let c = claim_of o s in
    let claimed = with_claim o c s in
    let before = held_over_a_claim o other s held in
    let made = compaction_of claimed.version (stretch_of claimed c) in
    let runs = kept m claimed c other made (claimed_stays o is_owner s fine) (claim_is_held o is_owner s fine) before.0 before.2 in
    subst (λ (p : Owner). (is_held p other ≡ true) × (claimed_runs p other ≡ claimed_runs o other)) (at_once m o is_owner s fine left)
    (held_over_an_install m claimed c other made before.0 before.2, runs ∙ before.1)
