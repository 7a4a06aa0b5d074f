-- A claim that is made, or fails.
use Rattle.std.proofs.Common.{◌≡◌, ℕ, ◌+◌, ◌<◌, ◌≤◌, ◌++◌, List, length, get_or, set, sym, ap, ◌∙◌, subst, arith}
use Rattle.std.specs.Prelude.{Option, Some, None, option_map}
use Rattle.std.specs.Option.{option_or}
use Rattle.std.specs.List.{flat_map}
use Rattle.uc_claims.specs.Claims.{times}
use Rattle.uc_claims.specs.Holding.{NoneHeld}
use Rattle.uc_version_state.specs.declared.stretch.Stretch.{Stretch}
use Rattle.uc_version_state.specs.Versions.{PlacedRun, slots_of, ids_of}
use Rattle.uc_version_state.specs.Installs.{part_of, newest_id}
use Rattle.uc_version.specs.declared.held_stretch.HeldStretch.{HeldStretch}
use Rattle.uc_version_compact.specs.declared.claim_error.ClaimError.{ClaimError}
use Rattle.uc_version_compact.specs.declared.claim_error.ClaimError.TheVariants.{Busy}
use Rattle.uc_version.specs.Owners.{last_id, Owner, IsOwner, slots_held, claimed_slots}
use Rattle.uc_version.specs.Claiming.{claim_refusal, first_busy, free_number, claim_of}
use Rattle.uc_version_compact.specs.Ranges.{range_refusal}
use Rattle.uc_version.proofs.HeldClaims.{free_none}
use Rattle.uc_version.proofs.Flags.{same_first}
use Rattle.uc_version_compact.proofs.InRange.{range_holds}
use Rattle.uc_version.proofs.Taking.{number_is_free, same_more, with_one_more}

module _ (o : Owner) (is_owner : IsOwner o) (held : List ℕ) (same : (k : ℕ) → times k held ≡ times k (claimed_slots o)) (s : Stretch)
    (runs part : List PlacedRun) (runs_are : runs ≡ o.version.runs) (in_range : range_refusal (length runs) s ≡ None) (part_is : part ≡ part_of s.first s.count runs) where
  here : range_refusal (length o.version.runs) s ≡ None
  here = ap (λ (ps : List PlacedRun). range_refusal (length ps) s) (sym runs_are) ∙ in_range

  pub part_here : part ≡ part_of s.first s.count o.version.runs
  part_here = part_is ∙ ap (part_of s.first s.count) runs_are

  by_slots : option_map Busy (first_busy held (slots_of part)) ≡ claim_refusal o s
  by_slots =
      ap (λ (ps : List PlacedRun). option_map Busy (first_busy held (slots_of ps))) part_here
      ∙ ap (option_map Busy) (same_first held (claimed_slots o) (slots_of (part_of s.first s.count o.version.runs)) same)
      ∙ ap (λ (refusal : Option ClaimError). option_or refusal (option_map Busy (first_busy (claimed_slots o) (slots_of (part_of s.first s.count o.version.runs))))) (sym here)

  pub refused : (error : ClaimError) → option_map Busy (first_busy held (slots_of part)) ≡ Some error → claim_refusal o s ≡ Some error
  refused error e = sym by_slots ∙ e

  pub allowed : first_busy held (slots_of part) ≡ None → claim_refusal o s ≡ None
  allowed e = sym by_slots ∙ ap (option_map Busy) e

  pub claim_is : (n newest oldest : ℕ) → n ≡ free_number o.claims → newest ≡ newest_id (ids_of part) → oldest ≡ last_id (ids_of part) →
      record { number = n; newest = newest; oldest = oldest } ≡ claim_of o s
  claim_is n newest oldest en ea eb =
      ap (λ (i : ℕ). record { number = i; newest = newest; oldest = oldest }) en
      ∙ ap (λ (i : ℕ). record { number = free_number o.claims; newest = i; oldest = oldest }) (ea ∙ ap (λ (ps : List PlacedRun). newest_id (ids_of ps)) part_here)
      ∙ ap (λ (i : ℕ). record { number = free_number o.claims; newest = newest_id (ids_of (part_of s.first s.count o.version.runs)); oldest = i }) (eb ∙ ap (λ (ps : List PlacedRun). last_id (ids_of ps)) part_here)

  module _ (newest oldest : ℕ) (apart : NoneHeld (slots_of part) held) where
    abbrev pub h : HeldStretch
    h = record { first = s.first; count = s.count; newest = newest; oldest = oldest }

    there : (2 ≤ s.count) × (s.first + s.count ≤ length o.version.runs)
    there = range_holds (length o.version.runs) s here

    apart_here : NoneHeld (slots_of (part_of s.first s.count o.version.runs)) held
    apart_here = subst (λ (ps : List PlacedRun). NoneHeld (slots_of ps) held) part_here apart

    pub number_below : (n : ℕ) → n ≡ free_number o.claims → n < length o.claims
    number_below n en = let lt = number_is_free o is_owner held same 0 h there.0 there.1 apart_here in omega (arith, lt, en)

    free_there : (n : ℕ) → n ≡ free_number o.claims → get_or o.claims n None ≡ None
    free_there n en = ap (λ i. get_or o.claims i None) en ∙ free_none o.version o.claims (number_is_free o is_owner held same 0 h there.0 there.1 apart_here)

    pub owner_after : (n : ℕ) → n ≡ free_number o.claims → newest ≡ newest_id (ids_of part) → oldest ≡ last_id (ids_of part) → IsOwner (record o { claims = set o.claims n (Some h) })
    owner_after n en ea eb =
        with_one_more o is_owner held same n h there.0 there.1 apart_here (number_below n en) (free_there n en)
        (ea ∙ ap (λ (ps : List PlacedRun). newest_id (ids_of ps)) part_here, eb ∙ ap (λ (ps : List PlacedRun). last_id (ids_of ps)) part_here)

    pub slots_after : (n : ℕ) → n ≡ free_number o.claims → (k : ℕ) → times k (held ++ slots_of part) ≡ times k (flat_map (slots_held o.version) (set o.claims n (Some h)))
    slots_after n en k =
        ap (λ (ps : List PlacedRun). times k (held ++ slots_of ps)) part_here
        ∙ same_more o is_owner held same n h there.0 there.1 apart_here (number_below n en) (free_there n en) k
