-- Claims that are taken and given back.
use Rattle.std.proofs.Common.{◌≡◌, ℕ, zero, suc, ◌+◌, ◌<◌, ◌≤◌, true, false, not, cond, ltb, List, ◌++◌, length, get_or, set, refl, sym, ap, ◌∙◌, subst, arith}
use Rattle.std.specs.Prelude.{Option, Some, None, Contains, All}
use Rattle.std.specs.List.{flat_map}
use Rattle.std.proofs.lemmas.Bool.Decides.{nat_tests}
use Rattle.std.proofs.lemmas.List.{length-set}
use Rattle.std.proofs.lemmas.List.Elements.{All-from_recursion}
use Rattle.uc_claims.specs.Claims.{times}
use Rattle.uc_claims.specs.Holding.{NoneHeld, without}
use Rattle.uc_claims.proofs.Times.{times-append, times-filter, list_any-times, Contains-from_times}
use Rattle.uc_version_state.specs.Versions.{slots_of}
use Rattle.uc_version_state.proofs.Once.{distinct-from_times, all-from_times}
use Rattle.uc_version.specs.declared.held_stretch.HeldStretch.{HeldStretch}
use Rattle.uc_version.specs.Owners.{Owner, IsOwner, NotesItsRuns, Stands, runs_held, slots_held, claimed_slots}
use Rattle.uc_version.specs.Claiming.{Claim, free_number, has_ids, is_held}
use Rattle.uc_version.specs.Installing.{stretch_in, stretch_of}
use Rattle.uc_version_compact.proofs.PartSlots.{part_once}
use Rattle.uc_version.proofs.HeldClaims.{times-set, all-set, all_at, held_below, none_held, claimed_once, number_free}

-- a slot list holds all of another
pub all_there : (held asked : List ℕ) → ((k : ℕ) → 0 < times k asked → 0 < times k held) → All (Contains held) asked
all_there held asked there = All-from_recursion (Contains held) asked (all-from_times (Contains held) asked (λ k some. Contains-from_times k held (there k some)))

times-without : (k : ℕ) (gone xs : List ℕ) → times k (without gone xs) ≡ cond (not (ltb 0 (times k gone))) (times k xs) 0
times-without k gone xs =
    times-filter _ k xs ∙ ap (λ b. cond (not b) (times k xs) 0) (list_any-times k gone)

pub without_gone : (k : ℕ) (gone xs : List ℕ) → 0 < times k gone → times k (without gone xs) ≡ 0
without_gone k gone xs some = times-without k gone xs ∙ ap (λ b. cond (not b) (times k xs) 0) (there (times k gone) some)
  where
    there : (n : ℕ) → 0 < n → ltb 0 n ≡ true
    there n lt = grind (arith, nat_tests)

pub without_kept : (k : ℕ) (gone xs : List ℕ) → times k gone ≡ 0 → times k (without gone xs) ≡ times k xs
without_kept k gone xs none = times-without k gone xs ∙ ap (λ b. cond (not b) (times k xs) 0) (missing (times k gone) none)
  where
    missing : (n : ℕ) → n ≡ 0 → ltb 0 n ≡ false
    missing n e = grind (arith, nat_tests)

module _ (o : Owner) (is_owner : IsOwner o) (held : List ℕ) (same : (k : ℕ) → times k held ≡ times k (claimed_slots o)) where
  -- a claim more
  module _ (n : ℕ) (h : HeldStretch) (two : 2 ≤ h.count) (within : h.first + h.count ≤ length o.version.runs) (apart : NoneHeld (slots_of (runs_held o.version h)) held) where
    abbrev asked : List ℕ
    asked = slots_of (runs_held o.version h)

    pub unclaimed : (k : ℕ) → 0 < times k asked → times k (claimed_slots o) ≡ 0
    unclaimed k some = sym (same k) ∙ none_held asked held apart k some

    pub number_is_free : free_number o.claims < length o.claims
    number_is_free = number_free o is_owner h.first h.count two within unclaimed

    module _ (room : n < length o.claims) (free : get_or o.claims n None ≡ None) where
      pub more_claimed : (k : ℕ) → times k (flat_map (slots_held o.version) (set o.claims n (Some h))) ≡ times k (claimed_slots o) + times k asked
      more_claimed k =
          let e = times-set o.version o.claims n (Some h) k room in
          let none : times k (slots_held o.version (get_or o.claims n None)) ≡ 0 = ap (λ (c : Option HeldStretch). times k (slots_held o.version c)) free in
          omega (arith, e, none)

      pub same_more : (k : ℕ) → times k (held ++ asked) ≡ times k (flat_map (slots_held o.version) (set o.claims n (Some h)))
      same_more k = let e = times-append k held asked in let s = same k in let m = more_claimed k in omega (arith, e, s, m)

      once_more : (k : ℕ) → times k (flat_map (slots_held o.version) (set o.claims n (Some h))) ≤ 1
      once_more k = by_count (times k asked) refl
        where
          by_count : (i : ℕ) → times k asked ≡ i → times k (flat_map (slots_held o.version) (set o.claims n (Some h))) ≤ 1
          by_count zero e = let m = more_claimed k in let le = claimed_once o is_owner k in omega (arith, m, le, e)
          by_count (suc i) e = let m = more_claimed k in let none = unclaimed k (omega (arith, e)) in let le = part_once o.version is_owner.version h.first h.count k in omega (arith, m, none, le)

      pub with_one_more : NotesItsRuns o.version h → IsOwner (record o { claims = set o.claims n (Some h) })
      with_one_more notes = record {
        version = is_owner.version;
        options_good = is_owner.options_good;
        numbers = length-set o.claims n (Some h) ∙ is_owner.numbers;
        stand = all-set o.version (Stands o.version) o.claims n (Some h) is_owner.stand (two, within, notes);
        apart = distinct-from_times (flat_map (slots_held o.version) (set o.claims n (Some h))) once_more;
      }

  -- a claim less
  module _ (n : ℕ) (h : HeldStretch) (held_is : get_or o.claims n None ≡ Some h) where
    abbrev given : List ℕ
    given = slots_of (runs_held o.version h)

    abbrev pub fewer : List (Option HeldStretch)
    fewer = set o.claims n None

    pub there : n < length o.claims
    there = held_below o.version o.claims n h held_is

    pub stands : (2 ≤ h.count) × (h.first + h.count ≤ length o.version.runs)
    stands = let all = subst (Stands o.version) held_is (all_at o.version (Stands o.version) o.claims n is_owner.stand there) in (all.0, all.1)

    pub less_claimed : (k : ℕ) → times k (flat_map (slots_held o.version) fewer) + times k given ≡ times k (claimed_slots o)
    less_claimed k =
        let e = times-set o.version o.claims n None k there in
        let some : times k (slots_held o.version (get_or o.claims n None)) ≡ times k given = ap (λ (c : Option HeldStretch). times k (slots_held o.version c)) held_is in
        omega (arith, e, some)

    pub all_held : All (Contains held) given
    all_held = all_there held given (λ k some. let l = less_claimed k in let s = same k in omega (arith, l, s, some))

    pub same_less : (k : ℕ) → times k (without given held) ≡ times k (flat_map (slots_held o.version) fewer)
    same_less k = by_count (times k given) refl
      where
        by_count : (i : ℕ) → times k given ≡ i → times k (without given held) ≡ times k (flat_map (slots_held o.version) fewer)
        by_count zero e = let w = without_kept k given held e in let l = less_claimed k in let s = same k in omega (arith, w, l, s, e)
        by_count (suc i) e = let w = without_gone k given held (omega (arith, e)) in let l = less_claimed k in let le = claimed_once o is_owner k in omega (arith, w, l, le, e)

    pub with_one_less : IsOwner (record o { claims = fewer })
    with_one_less = record {
      version = is_owner.version;
      options_good = is_owner.options_good;
      numbers = length-set o.claims n None ∙ is_owner.numbers;
      stand = all-set o.version (Stands o.version) o.claims n None is_owner.stand tt;
      apart = distinct-from_times (flat_map (slots_held o.version) fewer) (λ k. let l = less_claimed k in let le = claimed_once o is_owner k in omega (arith, l, le));
    }

-- the stretch of a claim that is held is there
pub held_stands : (o : Owner) → IsOwner o → (c : Claim) → is_held o c ≡ true → (2 ≤ (stretch_of o c).count) × ((stretch_of o c).first + (stretch_of o c).count ≤ length o.version.runs)
held_stands o is_owner c held = by_claim (get_or o.claims c.number None) refl held
  where
    by_claim : (found : Option HeldStretch) → get_or o.claims c.number None ≡ found → has_ids found c ≡ true → (2 ≤ (stretch_of o c).count) × ((stretch_of o c).first + (stretch_of o c).count ≤ length o.version.runs)
    by_claim None e wrong = absurd cc
    by_claim (Some h) e right =
        subst (λ (found : Option HeldStretch). (2 ≤ (stretch_in found).count) × ((stretch_in found).first + (stretch_in found).count ≤ length o.version.runs)) (sym e)
        (let all = subst (Stands o.version) e (all_at o.version (Stands o.version) o.claims c.number is_owner.stand (held_below o.version o.claims c.number h e)) in (all.0, all.1))
