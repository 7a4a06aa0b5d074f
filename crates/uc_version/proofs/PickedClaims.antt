-- A stretch of unclaimed runs can be claimed.
use Rattle.std.proofs.Common.{◌≡◌, ℕ, ◌+◌, ◌≤◌, Bool, true, false, not, cond, eqb, ◌&&◌, List, [], ◌∷◌, length, take, drop, map, refl, sym, ap, ◌∙◌, arith}
use Rattle.std.specs.Prelude.{Option, Some, None, option_map}
use Rattle.std.specs.Option.{option_or}
use Rattle.std.specs.List.{list_any}
use Rattle.std.proofs.lemmas.List.{length-map, drop-map}
use Rattle.std.specs.List.{take-map}
use Rattle.uc_version_state.specs.declared.stretch.Stretch.{Stretch}
use Rattle.uc_version_state.specs.Picks.{are_unclaimed}
use Rattle.uc_version_state.specs.Versions.{PlacedRun, slots_of}
use Rattle.uc_version_state.specs.Installs.{part_of}
use Rattle.uc_version_compact.specs.declared.claim_error.ClaimError.{ClaimError}
use Rattle.uc_version_compact.specs.declared.claim_error.ClaimError.TheVariants.{Busy}
use Rattle.uc_version.specs.Owners.{Owner, claimed_slots, is_busy}
use Rattle.uc_version_compact.specs.Picking.{candidate_of, candidates_of}
use Rattle.uc_version.specs.Claiming.{first_busy, claim_refusal}
use Rattle.uc_version_compact.proofs.InRange.{in_range}

-- no run of it is claimed
none_busy : (claimed : List ℕ) (runs : List PlacedRun) → are_unclaimed (map (candidate_of (λ slot. list_any (λ s. eqb s slot) claimed)) runs) ≡ true → first_busy claimed (slots_of runs) ≡ None
none_busy claimed [] e = refl
none_busy claimed (p ∷ ps) e = by_flag (list_any (λ s. eqb s p.slot) claimed) (are_unclaimed (map (candidate_of (λ slot. list_any (λ s. eqb s slot) claimed)) ps)) e (λ rest. none_busy claimed ps rest)
  where
    by_flag : (busy rest : Bool) → (not busy && rest) ≡ true → (rest ≡ true → first_busy claimed (slots_of ps) ≡ None) → cond busy (Some p.slot) (first_busy claimed (slots_of ps)) ≡ None
    by_flag true rest h later = absurd cc
    by_flag false rest h later = later h

pub can_be_claimed : (o : Owner) (s : Stretch) → 2 ≤ s.count → s.first + s.count ≤ length (candidates_of o.version (is_busy o)) →
    are_unclaimed (take s.count (drop s.first (candidates_of o.version (is_busy o)))) ≡ true → claim_refusal o s ≡ None
can_be_claimed o s two within free =
    let long = length-map o.version.runs (candidate_of (is_busy o)) in
    ap (λ (refusal : Option ClaimError). option_or refusal (option_map Busy (first_busy (claimed_slots o) (slots_of (part_of s.first s.count o.version.runs))))) (in_range (length o.version.runs) s two (omega (arith, within, long)))
    ∙ ap (option_map Busy) (none_busy (claimed_slots o) (part_of s.first s.count o.version.runs) (ap are_unclaimed parts ∙ free))
  where
    parts : map (candidate_of (is_busy o)) (part_of s.first s.count o.version.runs) ≡ take s.count (drop s.first (candidates_of o.version (is_busy o)))
    parts = sym (take-map (candidate_of (is_busy o)) s.count (drop s.first o.version.runs)) ∙ ap (take s.count) (sym (drop-map (candidate_of (is_busy o)) s.first o.version.runs))
