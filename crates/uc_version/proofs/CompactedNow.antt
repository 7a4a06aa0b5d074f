-- A stretch that is claimed, compacted and put in place.
use Rattle.std.proofs.Common.{◌≡◌, ◌+◌, ◌≤◌, List, [], ◌∷◌, length, get_or, set, map, refl, sym, ap, ◌∙◌, subst, get_or-set_same}
use Rattle.std.specs.Prelude.{Option, Some, None}
use Rattle.std.proofs.lemmas.List.{set-set, set-get_or}
use Rattle.uc_oper.specs.Operation.{Operation}
use Rattle.uc_version_state.specs.declared.stretch.Stretch.{Stretch}
use Rattle.uc_compact.specs.Inputs.{Compaction, Stand}
use Rattle.uc_compact.specs.Output.{output_of}
use Rattle.uc_version_state.specs.Versions.{Stored, IsVersion}
use Rattle.uc_version_state.specs.Installs.{Install, MayInstall, IdLeft, replaced, installed}
use Rattle.uc_version.specs.declared.held_stretch.HeldStretch.{HeldStretch}
use Rattle.uc_version.specs.Owners.{Owner, IsOwner}
use Rattle.uc_version.specs.Claiming.{Claim, claim_refusal, free_number, claim_of, with_claim, without_claim}
use Rattle.uc_version_compact.specs.Compacting.{compaction_at}
use Rattle.uc_version.specs.Installing.{stretch_in, stretch_of, compaction_of, MayReplace, moved_up, after_install}
use Rattle.uc_version.specs.AtOnce.{install_at, after_compaction, IsNotMade, IsNotCompacted}
use Rattle.uc_version.specs.declared.compact_error.CompactError.{CompactError}
use Rattle.uc_version.specs.declared.compact_error.CompactError.TheVariants.{NotClaimed, IdsSpent, Memory}
use Rattle.uc_version_compact.proofs.Standing.{part_stands}
use Rattle.uc_version.proofs.Legal.{is_legal, is_replaced}
use Rattle.uc_version.proofs.Staying.{range, number, claimed_stays, claim_is_held, own_may, installed_stays}

-- the least free number is free
pub free : (cs : List (Option HeldStretch)) → get_or cs (free_number cs) None ≡ None
free [] = refl
free (None ∷ cs) = refl
free (Some h ∷ cs) = free cs

-- a claim that is made and given back leaves the claims that were held
claims_again : (o : Owner) (h : HeldStretch) → set (set o.claims (free_number o.claims) (Some h)) (free_number o.claims) None ≡ o.claims
claims_again o h =
    set-set o.claims (free_number o.claims) (Some h) None
    ∙ ap (set o.claims (free_number o.claims)) (sym (free o.claims))
    ∙ set-get_or o.claims (free_number o.claims) None

pub back_again : (o : Owner) (s : Stretch) → without_claim (with_claim o (claim_of o s) s) (claim_of o s) ≡ o
back_again o s = ap (λ (cs : List (Option HeldStretch)). record o { claims = cs }) (claims_again o _)

-- the stretch of a claim that was just made
pub claimed_stretch : (o : Owner) → IsOwner o → (s : Stretch) → claim_refusal o s ≡ None →
    stretch_of (with_claim o (claim_of o s) s) (claim_of o s) ≡ record { first = s.first; count = s.count; newest = (claim_of o s).newest; oldest = (claim_of o s).oldest }
claimed_stretch o is_owner s fine =
    ap stretch_in (get_or-set_same o.claims (free_number o.claims) (Some (record { first = s.first; count = s.count; newest = (claim_of o s).newest; oldest = (claim_of o s).oldest })) None (number o is_owner s fine))

module _ (m : Operation) (o : Owner) (is_owner : IsOwner o) (s : Stretch) (fine : claim_refusal o s ≡ None) (left : IdLeft o.version) where
  abbrev v : Stored
  v = o.version

  abbrev c : Claim
  c = claim_of o s

  abbrev claimed : Owner
  claimed = with_claim o c s

  abbrev h : HeldStretch
  h = record { first = s.first; count = s.count; newest = c.newest; oldest = c.oldest }

  there : (2 ≤ s.count) × (s.first + s.count ≤ length v.runs)
  there = range o is_owner s fine

  made_stands : Stand (compaction_at v s).inputs (compaction_at v s).keeps
  made_stands = part_stands v is_owner.version s.first s.count there.0 there.1

  may_replace : MayReplace v h (compaction_of v h)
  may_replace = own_may v is_owner.version h there.0 there.1 left

  pub may : MayInstall m v (install_at m v s)
  may = is_legal m v is_owner.version h there.0 there.1 (compaction_of v h) made_stands may_replace

  stretch_is : stretch_of claimed c ≡ h
  stretch_is = claimed_stretch o is_owner s fine

  -- the owner of a claim after the install of its stretch's compaction
  abbrev left_by : HeldStretch → Owner
  left_by g = record claimed {
    version = replaced g.first g.count (output_of m (compaction_of v g)) v;
    claims = map (moved_up g.first g.count) (set claimed.claims c.number None);
  }

  pub at_once : after_install m claimed c (compaction_of claimed.version (stretch_of claimed c)) ≡ after_compaction m o s
  at_once =
      ap left_by stretch_is
      ∙ ap (λ (cs : List (Option HeldStretch)). record o { version = replaced s.first s.count (output_of m (compaction_at v s)) v; claims = map (moved_up s.first s.count) cs }) (claims_again o h)
      ∙ ap (λ (w : Stored). record o { version = w; claims = map (moved_up s.first s.count) o.claims }) (sym (is_replaced m v is_owner.version h there.0 there.1 (compaction_of v h) made_stands may_replace))

  pub stays : ((w : Stored) (i : Install) → IsVersion w → MayInstall m w i → IsVersion (installed i w)) → IsOwner (after_compaction m o s)
  stays gives =
      subst IsOwner at_once
      (installed_stays m claimed c (compaction_of v (stretch_of claimed c)) (claimed_stays o is_owner s fine) (claim_is_held o is_owner s fine)
      (subst (λ (g : HeldStretch). Stand (compaction_of v g).inputs (compaction_of v g).keeps) (sym stretch_is) made_stands)
      (subst (λ (g : HeldStretch). MayReplace v g (compaction_of v g)) (sym stretch_is) may_replace) gives)

  -- what comes of a claim, its compaction and its install, one after the other
  pub compacted_now : (d : Claim) (p q : Owner) (made : Compaction) → d ≡ c → p ≡ with_claim o d s → made ≡ compaction_of p.version (stretch_of p d) →
      q ≡ after_install m p d made → q ≡ after_compaction m o s
  compacted_now d p q made claim_is with_is made_is after_is =
      after_is
      ∙ ap (after_install m p d) made_is
      ∙ ap (λ (r : Owner). after_install m r d (compaction_of r.version (stretch_of r d))) with_is
      ∙ ap (λ (e : Claim). after_install m (with_claim o e s) e (compaction_of (with_claim o e s).version (stretch_of (with_claim o e s) e))) claim_is
      ∙ at_once

-- what comes of a claim that is given back
pub undone : (o : Owner) (s : Stretch) (d : Claim) (p q : Owner) → d ≡ claim_of o s → p ≡ with_claim o d s → q ≡ without_claim p d → q ≡ o
undone o s d p q claim_is with_is without_is =
    without_is
    ∙ ap (λ (r : Owner). without_claim r d) with_is
    ∙ ap (λ (e : Claim). without_claim (with_claim o e s) e) claim_is
    ∙ back_again o s

-- what a claimed stretch isn't made into isn't compacted
pub not_compacted : (o : Owner) (s : Stretch) → claim_refusal o s ≡ None → (error : CompactError) → IsNotMade o.version error → IsNotCompacted o s error
not_compacted o s fine (NotClaimed refusal) never = absurd never
not_compacted o s fine IdsSpent spent = (fine, spent)
not_compacted o s fine Memory left = (fine, left)
