-- Runs that were compacted, one by one with those that are claimed.
use Rattle.std.proofs.Common.{◌≡◌, ℕ, zero, suc, ◌+◌, ◌<◌, List, [], ◌∷◌, ◌++◌, length, get_or, take, map, refl, sym, ap, ◌∙◌, arith}
use Rattle.std.proofs.lemmas.List.{map-append, take_more, length-map}
use Rattle.uc_run_entry.specs.Run.{Contents}
use Rattle.uc_version_state.specs.Versions.{PlacedRun, contents_of}

at_map : {X Y : Type 0} (f : X → Y) (xs : List X) (i : ℕ) (y : Y) (d : X) → i < length xs → get_or (map f xs) i y ≡ f (get_or xs i d)
at_map f [] i y d lt = absurd (omega (arith, lt))
at_map f (x ∷ xs) zero y d lt = refl
at_map f (x ∷ xs) (suc i) y d lt = at_map f xs i y d (omega (arith, lt))

module _ {A : Type 0} (value : A → Contents) (inputs : List A) (runs : List PlacedRun) (i : ℕ) (d : A) (e : PlacedRun) (lt : i < length runs) (long : length inputs ≡ length runs) where
  -- one that differs
  pub not_inputs : (value (get_or inputs i d) ≡ (get_or runs i e).run → ⊥) → map value inputs ≡ contents_of runs → ⊥
  not_inputs differs same =
      differs (sym (at_map value inputs i (value d) d (omega (arith, lt, long))) ∙ ap (λ (rs : List Contents). get_or rs i (value d)) same ∙ at_map (λ (p : PlacedRun). p.run) runs i (value d) e lt)

  -- one more that is the same
  pub inputs_on : take i (map value inputs) ≡ contents_of (take i runs) → value (get_or inputs i d) ≡ (get_or runs i e).run → take (i + 1) (map value inputs) ≡ contents_of (take (i + 1) runs)
  inputs_on so_far same =
      take_more (map value inputs) i (value d) (let n = length-map inputs value in omega (arith, lt, long, n))
      ∙ ap (λ (rs : List Contents). rs ++ get_or (map value inputs) i (value d) ∷ []) so_far
      ∙ ap (λ (r : Contents). contents_of (take i runs) ++ r ∷ []) (at_map value inputs i (value d) d (omega (arith, lt, long)) ∙ same)
      ∙ sym (map-append (λ (p : PlacedRun). p.run) (take i runs) (get_or runs i e ∷ []))
      ∙ ap contents_of (sym (take_more runs i e lt))
