-- The id of the oldest run.
use Rattle.std.proofs.Common.{◌≡◌, ℕ, suc, ◌-◌, ◌<◌, List, [], ◌∷◌, length, get_or, ap, ◌∙◌, arith}
use Rattle.uc_version_state.specs.Versions.{PlacedRun, ids_of}
use Rattle.uc_version.specs.Owners.{last_id}

-- the last of some runs
pub last_is : (runs : List PlacedRun) (p : PlacedRun) → 0 < length runs → ((d : PlacedRun) → p ≡ get_or runs (length runs - 1) d) → p.id ≡ last_id (ids_of runs)
last_is [] p some is = absurd (omega (arith, some))
last_is (q ∷ []) p some is = ap (λ (r : PlacedRun). r.id) (is q)
last_is (q ∷ r ∷ rs) p some is =
    last_is (r ∷ rs) p (omega arith) (λ d. is d ∙ ap (λ n. get_or (q ∷ r ∷ rs) n d) (next (length rs)))
  where
    next : (n : ℕ) → suc (suc n) - 1 ≡ suc (suc n - 1)
    next n = omega arith
