-- The next walk at a head.
use Rattle.std.proofs.Common.{◌≡◌, ◌≢◌, ℕ, ◌<◌, ◌≤◌, List, length, get_or, map, Option, Some, sym, ap, ◌∙◌, arith, subst}
use Rattle.std.specs.List.{AllWithin, HoldsAt}
use Rattle.std.proofs.lemmas.List.{get_or-map}
use Rattle.uc_run.specs.Heads.{next_number, number_of}

-- keys that have another number are others
pub other_keys : (front key : List ℕ) (number : ℕ) (keys : List (Option (List ℕ))) (ns : List ℕ) (i j : ℕ) → ns ≡ map (next_number front) keys → number ≡ number_of front key → j ≤ length keys → AllWithin (λ n. n ≢ number) ns i j → AllWithin (λ k. k ≢ Some key) keys i j
other_keys front key number keys ns i j each is le others k d from lt same =
    others k 0 from lt
    (ap (λ (ms : List ℕ). get_or ms k 0) each
    ∙ get_or-map (next_number front) keys k d 0 (omega (arith, le, lt))
    ∙ ap (next_number front) same
    ∙ sym is)

-- what holds of an element's image
pub holds_mapped : {X Y : Type 0} (f : X → Y) (P : Y → Type 0) (xs : List X) (i : ℕ) (e : X) → i < length xs → P (f (get_or xs i e)) → HoldsAt P (map f xs) i
holds_mapped f P xs i e lt h d = subst P (sym (get_or-map f xs i e d lt)) h
