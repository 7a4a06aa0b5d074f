-- Runs of which none is claimed.
use Rattle.std.proofs.Common.{◌≡◌, ℕ, suc, Bool, false, cond, List, [], ◌∷◌, length, map, refl, ap, ◌∙◌}
use Rattle.uc_version_state.specs.Versions.{PlacedRun}
use Rattle.uc_version_state.specs.Picks.{unclaimed}
use Rattle.uc_version_compact.specs.Picking.{candidate_of}

-- all of them are at the head
pub unclaimed_all : (is_claimed : ℕ → Bool) → ((slot : ℕ) → is_claimed slot ≡ false) → (runs : List PlacedRun) → unclaimed (map (candidate_of is_claimed) runs) ≡ length runs
unclaimed_all is_claimed free [] = refl
unclaimed_all is_claimed free (p ∷ ps) =
    ap (λ b. cond b 0 (suc (unclaimed (map (candidate_of is_claimed) ps)))) (free p.slot) ∙ ap suc (unclaimed_all is_claimed free ps)
