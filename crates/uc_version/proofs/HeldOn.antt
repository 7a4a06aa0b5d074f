-- Claims are held on while others are made, given back and installed.
use Rattle.std.proofs.Common.{◌≡◌, ◌≢◌, ℕ, ◌-◌, Bool, true, false, cond, ltb, get_or, set, refl, ap, ◌∙◌}
use Rattle.std.specs.Prelude.{Option, Some, None}
use Rattle.std.proofs.lemmas.List.{get_or-set_other}
use Rattle.std.proofs.Math.ListN.{get_or-map}
use Rattle.uc_oper.specs.Operation.{Operation}
use Rattle.uc_compact.specs.Inputs.{Compaction}
use Rattle.uc_version_state.specs.declared.stretch.Stretch.{Stretch}
use Rattle.uc_version.specs.declared.held_stretch.HeldStretch.{HeldStretch}
use Rattle.uc_version.specs.Owners.{Owner, runs_held}
use Rattle.uc_version.specs.Claiming.{Claim, claim_of, with_claim, without_claim, free_number, has_ids, is_held}
use Rattle.uc_version.specs.Installing.{stretch_in, stretch_of, claimed_runs, moved_up, after_install}
use Rattle.uc_version.proofs.CompactedNow.{free}

-- what holds of a claim by its number holds where one with another number changed
module _ (o : Owner) (c : Claim) (n : ℕ) (y : Option HeldStretch) (apart : c.number ≢ n) where
  found_still : get_or (set o.claims n y) c.number None ≡ get_or o.claims c.number None
  found_still = get_or-set_other o.claims n c.number y None apart

  held_still : is_held o c ≡ true → is_held (record o { claims = set o.claims n y }) c ≡ true
  held_still held = ap (λ (found : Option HeldStretch). has_ids found c) found_still ∙ held

  runs_still : claimed_runs (record o { claims = set o.claims n y }) c ≡ claimed_runs o c
  runs_still = ap (λ (found : Option HeldStretch). runs_held o.version (stretch_in found)) found_still

-- a number that is given is none that is held
number_apart : (o : Owner) (c : Claim) (s : Stretch) → is_held o c ≡ true → c.number ≢ (claim_of o s).number
number_apart o c s held = λ same. none_held (get_or o.claims c.number None) (ap (λ n. get_or o.claims n None) same ∙ free o.claims) held
  where
    none_held : (found : Option HeldStretch) → found ≡ None → has_ids found c ≡ true → ⊥
    none_held None e is = absurd cc
    none_held (Some h) e is = absurd cc

pub held_over_a_claim : (o : Owner) (c : Claim) (s : Stretch) → is_held o c ≡ true →
    (is_held (with_claim o (claim_of o s) s) c ≡ true) × (claimed_runs (with_claim o (claim_of o s) s) c ≡ claimed_runs o c) × (c.number ≢ (claim_of o s).number)
held_over_a_claim o c s held =
    let h : HeldStretch = record { first = s.first; count = s.count; newest = (claim_of o s).newest; oldest = (claim_of o s).oldest } in
    let apart = number_apart o c s held in
    (held_still o c (free_number o.claims) (Some h) apart held, runs_still o c (free_number o.claims) (Some h) apart, apart)

pub held_over_an_abandon : (o : Owner) (c other : Claim) → is_held o c ≡ true → c.number ≢ other.number →
    (is_held (without_claim o other) c ≡ true) × (claimed_runs (without_claim o other) c ≡ claimed_runs o c)
held_over_an_abandon o c other held apart = (held_still o c other.number None apart held, runs_still o c other.number None apart)

-- a stretch that moves up has its ids
ids_go_on : (first count : ℕ) (found : Option HeldStretch) (c : Claim) → has_ids (moved_up first count found) c ≡ has_ids found c
ids_go_on first count None c = refl
ids_go_on first count (Some h) c = by_place (ltb first h.first)
  where
    by_place : (behind : Bool) → has_ids (cond behind (Some (record h { first = h.first - (count - 1) })) (Some h)) c ≡ has_ids (Some h) c
    by_place true = refl
    by_place false = refl

pub held_over_an_install : (m : Operation) (o : Owner) (c other : Claim) (made : Compaction) → is_held o other ≡ true → other.number ≢ c.number →
    is_held (after_install m o c made) other ≡ true
held_over_an_install m o c other made held apart =
    let h = stretch_of o c in
    let cs = set o.claims c.number None in
    ap (λ (found : Option HeldStretch). has_ids found other) (get_or-map (moved_up h.first h.count) cs other.number None)
    ∙ ids_go_on h.first h.count (get_or cs other.number None) other
    ∙ held_still o other c.number None apart held
