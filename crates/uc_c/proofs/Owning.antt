-- Jobs that a store has just taken out.
use Rattle.std.proofs.Common.{◌≡◌, ℕ, zero, suc, List, [], ◌∷◌, get_or, set, refl, sym, ap, subst}
use Rattle.std.specs.Prelude.{true, Option, Some, None}
use Rattle.uc_version_state.specs.declared.stretch.Stretch.{Stretch}
use Rattle.uc_version_state.specs.Versions.{contents_of}
use Rattle.uc_version.specs.declared.held_stretch.HeldStretch.{HeldStretch}
use Rattle.uc_version.specs.declared.job_stage.JobStage.TheVariants.{Taken}
use Rattle.uc_version.specs.Owners.{Owner, IsOwner, runs_held}
use Rattle.uc_version.specs.Claiming.{Claim, claim_of, claim_refusal, has_ids, is_held, with_claim, without_claim}
use Rattle.uc_version.specs.Installing.{stretch_in}
use Rattle.uc_version.specs.Jobs.{Task, IsOwn, IsStarted, task_of}

-- what is put at a place stands there, if anything does
placed : (claims : List (Option HeldStretch)) (n : ℕ) (h : HeldStretch) (c : Claim)
    → has_ids (get_or (set claims n (Some h)) n None) c ≡ true → get_or (set claims n (Some h)) n None ≡ Some h
placed [] n h c held = absurd cc
placed (x ∷ claims) zero h c held = refl
placed (x ∷ claims) (suc n) h c held = placed claims n h c held

own : (o : Owner) (s : Stretch) → is_held (with_claim o (claim_of o s) s) (claim_of o s) ≡ true → IsOwn (with_claim o (claim_of o s) s) (task_of o s)
own o s held =
    sym (ap (λ (h : Option HeldStretch). contents_of (runs_held o.version (stretch_in h))) (placed o.claims (claim_of o s).number _ (claim_of o s) held))

abbrev the : Task → Option Task → Task
the t None = t
the t (Some u) = u

-- what holds of the task of each stretch holds of what was started
started : (P : Owner → Owner → Task → Type 0) (o : Owner) → ((s : Stretch) → claim_refusal o s ≡ None → P o (with_claim o (claim_of o s) s) (task_of o s))
    → (next : Option Stretch) (task : Task) (o' : Owner) → IsStarted next (Some task) o o' → P o o' task
started P o each None task o' is = absurd (let e : Some task ≡ None = is.0 in cc)
started P o each (Some s) task o' is =
    subst (λ (p : Owner). P o p task) (sym is.2)
    (subst (λ (t : Task). P o (with_claim o (claim_of o s) s) t) (sym (ap (the task) is.1)) (each s is.0))

-- if its claim is held, it was made of its runs
pub held_is_own : (next : Option Stretch) (task : Task) (o o' : Owner) → IsStarted next (Some task) o o' → is_held o' task.claim ≡ true → IsOwn o' task
held_is_own next task o o' is = started (λ o o' t. is_held o' t.claim ≡ true → IsOwn o' t) o (λ s fine held. own o s held) next task o' is

-- what is known of the claims of each owner
abbrev pub ClaimsAreHeld : Type 0
ClaimsAreHeld = (o : Owner) (s : Stretch) → IsOwner o → claim_refusal o s ≡ None → is_held (with_claim o (claim_of o s) s) (claim_of o s) ≡ true

abbrev pub ClaimsGoBack : Type 0
ClaimsGoBack = (o : Owner) (s : Stretch) → without_claim (with_claim o (claim_of o s) s) (claim_of o s) ≡ o

-- it can be ended at once, and then the owner is as before
pub can_end : ClaimsAreHeld → (next : Option Stretch) (task : Task) (o o' : Owner) → IsOwner o → IsStarted next (Some task) o o' → is_held o' task.claim ≡ true
can_end are_held next task o o' is_owner is = started (λ o o' t. is_held o' t.claim ≡ true) o (λ s fine. are_held o s is_owner fine) next task o' is

pub goes_back : ClaimsGoBack → (next : Option Stretch) (task : Task) (o o' : Owner) → IsStarted next (Some task) o o' → without_claim o' task.claim ≡ o
goes_back go_back next task o o' is = started (λ o o' t. without_claim o' t.claim ≡ o) o (λ s fine. go_back o s) next task o' is

pub is_not_run : (next : Option Stretch) (task : Task) (o o' : Owner) → IsStarted next (Some task) o o' → task.stage ≡ Taken
is_not_run next task o o' is = started (λ o o' t. t.stage ≡ Taken) o (λ s fine. refl) next task o' is
