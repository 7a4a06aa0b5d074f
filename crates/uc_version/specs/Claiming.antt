-- Claims of stretches.
use Rattle.std.specs.Prelude.{ℕ, suc, ◌==◌, Bool, false, ◌&&◌, List, [], ◌∷◌, Option, Some, None, option_map, length, slice_set, slice_index_or, if◌then◌else◌}
use Rattle.std.specs.List.{list_any}
use Rattle.std.specs.Option.{option_or}
use Rattle.uc_version_state.specs.declared.stretch.Stretch.{Stretch}
use Rattle.uc_version_state.specs.Versions.{ids_of, slots_of}
use Rattle.uc_version_state.specs.Installs.{part_of, newest_id}
use Rattle.uc_version_compact.specs.Ranges.{range_refusal}
use Rattle.uc_version.specs.declared.held_stretch.HeldStretch.{HeldStretch}
use Rattle.uc_version_compact.specs.declared.claim_error.ClaimError.{ClaimError}
use Rattle.uc_version_compact.specs.declared.claim_error.ClaimError.TheVariants.{Busy}
use Rattle.uc_version.specs.Owners.{Owner, claimed_slots, last_id}

-- a claim as its holder has it: its number, and the ids of the newest and the oldest run of its stretch
pub record Claim : Type 0 where
  pub number : ℕ
  pub newest : ℕ
  pub oldest : ℕ

-- the first of some slots that is claimed
abbrev pub first_busy : List ℕ → List ℕ → Option ℕ
first_busy claimed [] = None
first_busy claimed (slot ∷ slots) = if list_any (λ s. s == slot) claimed then Some slot else first_busy claimed slots

-- Why a stretch can't be claimed: its range isn't valid, or runs of it are claimed, the newest of which is named.
abbrev pub claim_refusal : Owner → Stretch → Option ClaimError
claim_refusal o s =
    option_or (range_refusal (length o.version.runs) s)
    (option_map Busy (first_busy (claimed_slots o) (slots_of (part_of s.first s.count o.version.runs))))

-- the least number that no held claim has
abbrev pub free_number : List (Option HeldStretch) → ℕ
free_number [] = 0
free_number (None ∷ claims) = 0
free_number (Some held ∷ claims) = suc (free_number claims)

-- the ids of a stretch
abbrev pub stretch_ids : Owner → Stretch → List ℕ
stretch_ids o s = ids_of (part_of s.first s.count o.version.runs)

-- the claim of a stretch
abbrev pub claim_of : Owner → Stretch → Claim
claim_of o s = record { number = free_number o.claims; newest = newest_id (stretch_ids o s); oldest = last_id (stretch_ids o s) }

-- the owner with a claim that is held
abbrev pub with_claim : Owner → Claim → Stretch → Owner
with_claim o c s = record o {
  claims = slice_set o.claims c.number (Some (record { first = s.first; count = s.count; newest = c.newest; oldest = c.oldest }));
}

-- the claim that has a number
abbrev pub held_by : List (Option HeldStretch) → ℕ → Option HeldStretch
held_by claims number = slice_index_or claims number None

abbrev pub has_ids : Option HeldStretch → Claim → Bool
has_ids None c = false
has_ids (Some h) c = (h.newest == c.newest) && (h.oldest == c.oldest)

-- whether the store holds the claim: one with its number and its ids
abbrev pub is_held : Owner → Claim → Bool
is_held o c = has_ids (held_by o.claims c.number) c

-- the owner without a claim
abbrev pub without_claim : Owner → Claim → Owner
without_claim o c = record o { claims = slice_set o.claims c.number None }
