-- The last of some points.
use Rattle.std.proofs.Common.{◌≡◌, ℕ, zero, suc, ◌≤◌, List, [], ◌∷◌, length, drop, refl, sym, ap, arith}
use Rattle.std.specs.List.{slice_get}
use Rattle.std.specs.List.Sorted.{IsStrictlySortedBy}
use Rattle.std.specs.declared.cmp.Ordering.{Ordering}
use Rattle.std.proofs.lemmas.List.{length-drop}
use Rattle.uc_run_entry.specs.declared.entry.Entry.{Entry}
use Rattle.uc_run.specs.Places.{place_of, IsRest}

pub place_back : (points : List Entry) (n : ℕ) → n ≤ length points → place_of points (drop n points) ≡ n
place_back points n le = let l = length-drop n points in omega (arith, l, le)

pub rest_behind : (points : List Entry) (n : ℕ) → n ≤ length points → IsRest points (drop n points)
rest_behind points n le = ap (λ k. drop k points) (sym (place_back points n le))

pub head_there : {X : Type 0} (xs : List X) (k : ℕ) → slice_get (drop k xs) 0 ≡ slice_get xs k
head_there [] zero = refl
head_there [] (suc k) = refl
head_there (x ∷ xs) zero = refl
head_there (x ∷ xs) (suc k) = head_there xs k

pub sorted-drop : {K : Type 0} (cmp : K → K → Ordering) (n : ℕ) (xs : List K) → IsStrictlySortedBy cmp xs → IsStrictlySortedBy cmp (drop n xs)
unfolding IsStrictlySortedBy
sorted-drop cmp zero xs h = h
sorted-drop cmp (suc n) [] h = h
sorted-drop cmp (suc n) (x ∷ xs) h = sorted-drop cmp n xs h.1

pub sorted_none : {K : Type 0} (cmp : K → K → Ordering) → IsStrictlySortedBy cmp []
unfolding IsStrictlySortedBy
sorted_none cmp = tt
