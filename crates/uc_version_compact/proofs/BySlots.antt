-- Facts of runs by their slots.
use Rattle.std.proofs.Common.{◌≡◌, ℕ, zero, suc, ◌<◌, Bool, List, [], ◌∷◌, length, get_or, map, refl, ap, ◌∙◌, arith}
use Rattle.std.specs.List.{AllByRecursion}
use Rattle.uc_version_state.specs.Versions.{PlacedRun, slots_of}
use Rattle.uc_version_compact.specs.Picking.{candidate_of}

-- candidates are the same where the same slots are claimed
pub same_candidates : (f g : ℕ → Bool) (runs : List PlacedRun) → AllByRecursion (λ slot. f slot ≡ g slot) (slots_of runs) → map (candidate_of f) runs ≡ map (candidate_of g) runs
same_candidates f g [] same = refl
same_candidates f g (p ∷ ps) same =
    ap (λ b. record (candidate_of f p) { claimed = b } ∷ map (candidate_of f) ps) same.0
    ∙ ap (λ cs. candidate_of g p ∷ cs) (same_candidates f g ps same.1)

-- what holds of all slots of runs holds of that of one
pub slot_of_one : (P : ℕ → Type 0) (runs : List PlacedRun) (i : ℕ) (d : PlacedRun) → AllByRecursion P (slots_of runs) → i < length runs → P (get_or runs i d).slot
slot_of_one P [] i d h lt = absurd (omega (arith, lt))
slot_of_one P (p ∷ ps) zero d h lt = h.0
slot_of_one P (p ∷ ps) (suc i) d h lt = slot_of_one P ps i d h.1 (omega (arith, lt))
