-- The slots of held claims.
use Rattle.std.proofs.Common.{◌≡◌, ℕ, zero, suc, ◌+◌, ◌*◌, ◌<◌, ◌≤◌, List, [], ◌∷◌, ◌++◌, length, get_or, set, refl, inl, inr, arith}
use Rattle.std.specs.Prelude.{◌⊎◌, Option, Some, None, Contains}
use Rattle.std.specs.List.{AllByRecursion, flat_map}
use Rattle.std.proofs.lemmas.List.{length-append}
use Rattle.std.proofs.lemmas.Bool.{cases_lt}
use Rattle.std.proofs.lemmas.List.Elements.{All-contains}
use Rattle.uc_claims.specs.Claims.{times}
use Rattle.uc_claims.specs.Holding.{NoneHeld}
use Rattle.uc_claims.specs.declared.table.TheConstants.{MOST_SLOTS}
use Rattle.uc_claims.proofs.Times.{times-append, times-distinct, Contains-from_times}
use Rattle.uc_version_state.specs.Versions.{Stored, slots_of}
use Rattle.uc_version_state.specs.Installs.{part_of}
use Rattle.uc_version_state.proofs.Once.{times_of_all}
use Rattle.uc_version.specs.declared.held_stretch.HeldStretch.{HeldStretch}
use Rattle.uc_version.specs.Owners.{Owner, IsOwner, Stands, slots_held, claimed_slots}
use Rattle.uc_version.specs.Claiming.{free_number}
use Rattle.uc_version_state.proofs.Few.{few}
use Rattle.uc_version_compact.proofs.PartSlots.{part_once, part_below, slots_length}

module _ (v : Stored) where
  -- the slots of claims of which one is another
  pub times-set : (cs : List (Option HeldStretch)) (i : ℕ) (y : Option HeldStretch) (k : ℕ) → i < length cs →
      times k (flat_map (slots_held v) (set cs i y)) + times k (slots_held v (get_or cs i None)) ≡ times k (flat_map (slots_held v) cs) + times k (slots_held v y)
  times-set [] i y k lt = absurd (omega (arith, lt))
  times-set (c ∷ cs) zero y k lt =
      let one = times-append k (slots_held v y) (flat_map (slots_held v) cs) in
      let other = times-append k (slots_held v c) (flat_map (slots_held v) cs) in
      omega (arith, one, other)
  times-set (c ∷ cs) (suc i) y k lt =
      let one = times-append k (slots_held v c) (flat_map (slots_held v) (set cs i y)) in
      let other = times-append k (slots_held v c) (flat_map (slots_held v) cs) in
      let rest = times-set cs i y k (omega (arith, lt)) in
      omega (arith, one, other, rest)

  -- a number is free, or all are held
  pub free_none : (cs : List (Option HeldStretch)) → free_number cs < length cs → get_or cs (free_number cs) None ≡ None
  free_none [] lt = refl
  free_none (None ∷ cs) lt = refl
  free_none (Some h ∷ cs) lt = free_none cs (omega (arith, lt))

  all_held : (cs : List (Option HeldStretch)) → length cs ≤ free_number cs → AllByRecursion (Stands v) cs → 2 * length cs ≤ length (flat_map (slots_held v) cs)
  all_held [] le stand = omega arith
  all_held (None ∷ cs) le stand = absurd (omega (arith, le))
  all_held (Some h ∷ cs) le stand =
      let here = slots_length v.runs h.first h.count stand.0.1 in
      let two = stand.0.0 in
      let rest = all_held cs (omega (arith, le)) stand.1 in
      let both = length-append (slots_of (part_of h.first h.count v.runs)) (flat_map (slots_held v) cs) in
      omega (arith, here, two, rest, both)

  pub all-set : (P : Option HeldStretch → Type 0) (cs : List (Option HeldStretch)) (i : ℕ) (y : Option HeldStretch) → AllByRecursion P cs → P y → AllByRecursion P (set cs i y)
  all-set P [] i y h p = tt
  all-set P (c ∷ cs) zero y h p = (p, h.1)
  all-set P (c ∷ cs) (suc i) y h p = (h.0, all-set P cs i y h.1 p)

  pub all_at : (P : Option HeldStretch → Type 0) (cs : List (Option HeldStretch)) (i : ℕ) → AllByRecursion P cs → i < length cs → P (get_or cs i None)
  all_at P [] i h lt = absurd (omega (arith, lt))
  all_at P (c ∷ cs) zero h lt = h.0
  all_at P (c ∷ cs) (suc i) h lt = all_at P cs i h.1 (omega (arith, lt))

  -- a claim that is held has a number among those that there are
  pub held_below : (cs : List (Option HeldStretch)) (i : ℕ) (h : HeldStretch) → get_or cs i None ≡ Some h → i < length cs
  held_below [] i h e = absurd cc
  held_below (c ∷ cs) zero h e = omega arith
  held_below (c ∷ cs) (suc i) h e = let lt = held_below cs i h e in omega (arith, lt)

-- a slot that is asked for is held nowhere
pub none_held : (asked held : List ℕ) → NoneHeld asked held → (k : ℕ) → 0 < times k asked → times k held ≡ 0
none_held asked held none k some = by_count (times k held) refl
  where
    by_count : (n : ℕ) → times k held ≡ n → times k held ≡ 0
    by_count zero e = e
    by_count (suc n) e = absurd (All-contains (λ slot. ¬ Contains held slot) asked k none (Contains-from_times k asked some) (Contains-from_times k held (omega (arith, e))))

module _ (o : Owner) (is_owner : IsOwner o) where
  -- a slot is claimed once, and there is one
  pub claimed_once : (k : ℕ) → times k (claimed_slots o) ≤ 1
  claimed_once k = times-distinct (claimed_slots o) is_owner.apart k

  slot_here : (c : Option HeldStretch) (k : ℕ) → 0 < times k (slots_held o.version c) → k < MOST_SLOTS
  slot_here None k some = absurd (omega (arith, some))
  slot_here (Some h) k some = times_of_all (λ slot. slot < MOST_SLOTS) (slots_of (part_of h.first h.count o.version.runs)) (part_below o.version is_owner.version h.first h.count) k some

  first_or_later : (c : Option HeldStretch) (cs : List (Option HeldStretch)) (k n : ℕ) → times k (slots_held o.version c) ≡ n → 0 < times k (flat_map (slots_held o.version) (c ∷ cs)) → (0 < times k (flat_map (slots_held o.version) cs) → k < MOST_SLOTS) → k < MOST_SLOTS
  first_or_later c cs k zero e some later = later (let both = times-append k (slots_held o.version c) (flat_map (slots_held o.version) cs) in omega (arith, both, e, some))
  first_or_later c cs k (suc n) e some later = slot_here c k (omega (arith, e))

  slots_below : (cs : List (Option HeldStretch)) (k : ℕ) → 0 < times k (flat_map (slots_held o.version) cs) → k < MOST_SLOTS
  slots_below [] k some = absurd (omega (arith, some))
  slots_below (c ∷ cs) k some = first_or_later c cs k (times k (slots_held o.version c)) refl some (λ later. slots_below cs k later)

  -- where a stretch more may be claimed, a number is free
  pub number_free : (first count : ℕ) → 2 ≤ count → first + count ≤ length o.version.runs →
      ((k : ℕ) → 0 < times k (slots_of (part_of first count o.version.runs)) → times k (claimed_slots o) ≡ 0) → free_number o.claims < length o.claims
  number_free first count two within apart = by_place (cases_lt (free_number o.claims) (length o.claims))
    where
      once : (k : ℕ) → times k (claimed_slots o ++ slots_of (part_of first count o.version.runs)) ≤ 1
      once k = once_by (times k (slots_of (part_of first count o.version.runs))) refl
        where
          both : times k (claimed_slots o ++ slots_of (part_of first count o.version.runs)) ≡ times k (claimed_slots o) + times k (slots_of (part_of first count o.version.runs))
          both = times-append k (claimed_slots o) (slots_of (part_of first count o.version.runs))

          once_by : (n : ℕ) → times k (slots_of (part_of first count o.version.runs)) ≡ n → times k (claimed_slots o ++ slots_of (part_of first count o.version.runs)) ≤ 1
          once_by zero e = let le = claimed_once k in omega (arith, both, e, le)
          once_by (suc n) e = let none = apart k (omega (arith, e)) in let le = part_once o.version is_owner.version first count k in omega (arith, both, none, le)

      below : (k : ℕ) → 0 < times k (claimed_slots o ++ slots_of (part_of first count o.version.runs)) → k < MOST_SLOTS
      below k some = below_by (times k (claimed_slots o)) refl
        where
          below_by : (n : ℕ) → times k (claimed_slots o) ≡ n → k < MOST_SLOTS
          below_by zero e = let both = times-append k (claimed_slots o) (slots_of (part_of first count o.version.runs)) in times_of_all (λ slot. slot < MOST_SLOTS) (slots_of (part_of first count o.version.runs)) (part_below o.version is_owner.version first count) k (omega (arith, both, e, some))
          below_by (suc n) e = slots_below o.claims k (omega (arith, e))

      by_place : (free_number o.claims < length o.claims) ⊎ (length o.claims ≤ free_number o.claims) → free_number o.claims < length o.claims
      by_place (inl lt) = lt
      by_place (inr le) =
          let many = all_held o.version o.claims le is_owner.stand in
          let numbers = is_owner.numbers in
          let all = length-append (claimed_slots o) (slots_of (part_of first count o.version.runs)) in
          let here = slots_length o.version.runs first count within in
          let most = few MOST_SLOTS (claimed_slots o ++ slots_of (part_of first count o.version.runs)) once below in
          absurd (omega (arith, many, numbers, all, here, most, two))
