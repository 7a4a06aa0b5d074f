-- Claims, abandons and installs keep the invariant of an owner.
use Rattle.std.proofs.Common.{◌≡◌, ℕ, ◌+◌, ◌<◌, ◌≤◌, ◌≢◌, Bool, true, false, cond, eqb, ltb, ◌&&◌, List, [], ◌∷◌, length, get_or, refl, sym, ap, ◌∙◌, subst, eq-eqb, get_or-set_same, arith}
use Rattle.std.specs.Prelude.{Option, Some, None, Contains, option_map}
use Rattle.std.specs.Option.{option_or}
use Rattle.std.specs.List.{AllByRecursion, list_any}
use Rattle.std.proofs.lemmas.Bool.{false≢true}
use Rattle.std.proofs.lemmas.Bool.Decides.{nat_tests}
use Rattle.std.proofs.lemmas.List.{drop_all}
use Rattle.std.proofs.lemmas.List.Elements.{All-from_recursion}
use Rattle.uc_oper.specs.Operation.{Operation}
use Rattle.uc_claims.specs.Claims.{times}
use Rattle.uc_claims.specs.Holding.{NoneHeld}
use Rattle.uc_claims.proofs.Times.{times-from_Contains, list_any-times}
use Rattle.uc_version_state.specs.declared.stretch.Stretch.{Stretch}
use Rattle.uc_compact.specs.Inputs.{Compaction, Stand}
use Rattle.uc_compact.specs.Output.{output_of}
use Rattle.uc_version_state.specs.Versions.{Stored, IsVersion, ids_of, slots_of}
use Rattle.uc_version_state.specs.Installs.{Install, MayInstall, NothingBelow, terms_of, behind, part_of, installed}
use Rattle.uc_version_state.specs.Refusals.{AreInPlace}
use Rattle.uc_version_state.proofs.Found.{standing_is, behind_is}
use Rattle.uc_version.specs.declared.held_stretch.HeldStretch.{HeldStretch}
use Rattle.uc_version_compact.specs.declared.claim_error.ClaimError.{ClaimError}
use Rattle.uc_version_compact.specs.declared.claim_error.ClaimError.TheVariants.{Busy}
use Rattle.uc_version_compact.specs.declared.install_error.InstallError.{InstallError}
use Rattle.uc_version_compact.specs.declared.install_error.InstallError.TheVariants.{WrongInputs, WrongKeeps, Stale, IdsSpent, Memory}
use Rattle.uc_version.specs.Owners.{Owner, IsOwner, runs_held, claimed_slots}
use Rattle.uc_version.specs.Claiming.{Claim, first_busy, claim_refusal, free_number, claim_of, with_claim, has_ids, is_held, without_claim}
use Rattle.uc_version_compact.specs.Ranges.{range_refusal}
use Rattle.uc_version_compact.specs.Compacting.{Fits, IsNotInstallable}
use Rattle.uc_version.specs.Installing.{stretch_in, stretch_of, compaction_of, IdLeft, MayReplace, IsRefused, after_install, install_of}
use Rattle.uc_version.proofs.HeldClaims.{free_none}
use Rattle.uc_version_compact.proofs.InRange.{range_holds}
use Rattle.uc_version_compact.proofs.OwnKeeps.{none_unknown}
use Rattle.uc_version.proofs.Taking.{number_is_free, with_one_more, with_one_less, held_stands}
use Rattle.uc_version.proofs.Moving.{owner_after}
use Rattle.uc_version.proofs.Legal.{is_legal, is_replaced}

there : (n : ℕ) → 0 < n → ltb 0 n ≡ true
there n lt = grind (arith, nat_tests)

-- a claim that doesn't fail is in range, and has no run that is claimed
pub fine_parts : (range : Option ClaimError) (busy : Option ℕ) → option_or range (option_map Busy busy) ≡ None → (range ≡ None) × (busy ≡ None)
fine_parts None None e = (refl, refl)
fine_parts None (Some slot) e = absurd cc
fine_parts (Some error) busy e = absurd cc

not_busy : (held asked : List ℕ) → first_busy held asked ≡ None → AllByRecursion (λ slot. ¬ Contains held slot) asked
not_busy held [] e = tt
not_busy held (slot ∷ slots) e = by_flag (list_any (λ s. eqb s slot) held) refl e (λ rest. not_busy held slots rest)
  where
    by_flag : (b : Bool) → list_any (λ s. eqb s slot) held ≡ b → cond b (Some slot) (first_busy held slots) ≡ None →
        (first_busy held slots ≡ None → AllByRecursion (λ s. ¬ Contains held s) slots) → AllByRecursion (λ s. ¬ Contains held s) (slot ∷ slots)
    by_flag true eb h later = absurd cc
    by_flag false eb h later =
        ((λ has. false≢true (sym eb ∙ list_any-times slot held ∙ there (times slot held) (times-from_Contains slot held has))), later h)

both_true : (a b : Bool) → a ≡ true → b ≡ true → (a && b) ≡ true
both_true true true ea eb = refl
both_true true false ea eb = absurd cc
both_true false b ea eb = absurd cc

-- a claim has its own ids
pub own_ids : (first count : ℕ) (c : Claim) → has_ids (Some (record { first = first; count = count; newest = c.newest; oldest = c.oldest })) c ≡ true
own_ids first count c = both_true (eqb c.newest c.newest) (eqb c.oldest c.oldest) (eq-eqb c.newest c.newest refl) (eq-eqb c.oldest c.oldest refl)

module _ (o : Owner) (is_owner : IsOwner o) (s : Stretch) (fine : claim_refusal o s ≡ None) where
  parts : (range_refusal (length o.version.runs) s ≡ None) × (first_busy (claimed_slots o) (slots_of (part_of s.first s.count o.version.runs)) ≡ None)
  parts = fine_parts (range_refusal (length o.version.runs) s) (first_busy (claimed_slots o) (slots_of (part_of s.first s.count o.version.runs))) fine

  pub range : (2 ≤ s.count) × (s.first + s.count ≤ length o.version.runs)
  range = range_holds (length o.version.runs) s parts.0

  abbrev h : HeldStretch
  h = record { first = s.first; count = s.count; newest = (claim_of o s).newest; oldest = (claim_of o s).oldest }

  apart : NoneHeld (slots_of (runs_held o.version h)) (claimed_slots o)
  apart = All-from_recursion (λ slot. ¬ Contains (claimed_slots o) slot) (slots_of (runs_held o.version h)) (not_busy (claimed_slots o) (slots_of (runs_held o.version h)) parts.1)

  pub number : free_number o.claims < length o.claims
  number = number_is_free o is_owner (claimed_slots o) (λ k. refl) 0 h range.0 range.1 apart

  pub claimed_stays : IsOwner (with_claim o (claim_of o s) s)
  claimed_stays =
      with_one_more o is_owner (claimed_slots o) (λ k. refl) (free_number o.claims) h range.0 range.1 apart number (free_none o.version o.claims number) (refl, refl)

  pub claim_is_held : is_held (with_claim o (claim_of o s) s) (claim_of o s) ≡ true
  claim_is_held =
      ap (λ (found : Option HeldStretch). has_ids found (claim_of o s)) (get_or-set_same o.claims (free_number o.claims) (Some h) None number)
      ∙ own_ids s.first s.count (claim_of o s)

-- a claim that is held has its stretch under its number
pub held_is : (o : Owner) (c : Claim) → is_held o c ≡ true → get_or o.claims c.number None ≡ Some (stretch_of o c)
held_is o c held = by_claim (get_or o.claims c.number None) held
  where
    by_claim : (found : Option HeldStretch) → has_ids found c ≡ true → found ≡ Some (stretch_in found)
    by_claim None wrong = absurd cc
    by_claim (Some h) right = refl

pub given_back_stays : (o : Owner) (c : Claim) → IsOwner o → is_held o c ≡ true → IsOwner (without_claim o c)
given_back_stays o c is_owner held = with_one_less o is_owner (claimed_slots o) (λ k. refl) c.number (stretch_of o c) (held_is o c held)

pub installed_stays : (m : Operation) (o : Owner) (c : Claim) (made : Compaction) → IsOwner o → is_held o c ≡ true → Stand made.inputs made.keeps → MayReplace o.version (stretch_of o c) made →
    ((v : Stored) (i : Install) → IsVersion v → MayInstall m v i → IsVersion (installed i v)) → IsOwner (after_install m o c made)
installed_stays m o c made is_owner held stand may gives =
    let at = held_stands o is_owner c held in
    let legal = is_legal m o.version is_owner.version (stretch_of o c) at.0 at.1 made stand may in
    let is = is_replaced m o.version is_owner.version (stretch_of o c) at.0 at.1 made stand may in
    owner_after o is_owner (claimed_slots o) (λ k. refl) c.number (stretch_of o c) (held_is o c held) (output_of m made)
    (subst IsVersion is (gives o.version (install_of m o.version (stretch_of o c) made) is_owner.version legal))

module _ (v : Stored) (is_version : IsVersion v) (h : HeldStretch) (two : 2 ≤ h.count) (within : h.first + h.count ≤ length v.runs) where
  -- the runs of a stretch are in place
  pub own_place : AreInPlace v (ids_of (runs_held v h))
  own_place = ap ids_of (standing_is v is_version (ids_of (runs_held v h)) h.first h.count (omega (arith, two)) within refl)

  own_oldest : NothingBelow (behind (ids_of (runs_held v h)) v.runs) (terms_of (compaction_of v h))
  own_oldest last =
      let same : h.first + h.count ≡ length v.runs = grind (arith, nat_tests) in
      behind_is v is_version (ids_of (runs_held v h)) h.first h.count (omega (arith, two)) within refl
      ∙ drop_all (h.first + h.count) v.runs (omega (arith, same))

  own_fits : Fits v (runs_held v h) (compaction_of v h)
  own_fits = record { inputs = refl; oldest = own_oldest }

  pub own_may : IdLeft v → MayReplace v h (compaction_of v h)
  own_may left = record {
    inputs = refl;
    there = record { in_place = own_place; may = record { keeps_known = λ keep has lt. has; oldest_last = own_oldest; id_left = left } };
  }

  -- and so it isn't stale
  pub never_stale : (made : Compaction) (error : InstallError) → IsNotInstallable v (runs_held v h) made error → error ≢ Stale
  never_stale made WrongInputs refused = λ same. absurd cc
  never_stale made (WrongKeeps keep) refused = λ same. absurd cc
  never_stale made Stale refused = λ same. refused.2 own_place
  never_stale made IdsSpent refused = λ same. absurd cc
  never_stale made Memory refused = absurd refused

  pub only_ids : (error : InstallError) → IsRefused v h (compaction_of v h) error → (error ≡ IdsSpent) × ¬ IdLeft v
  only_ids WrongInputs refused = absurd (refused.0 own_fits)
  only_ids (WrongKeeps keep) refused =
      let none : None ≡ Some keep = sym (none_unknown (terms_of (compaction_of v h)) v.keeps (λ keep has lt. has)) ∙ refused.0.1 in absurd cc
  only_ids Stale refused = absurd (refused.1 refl)
  only_ids IdsSpent refused = (refl, refused.0.3)
  only_ids Memory refused = absurd refused.0
