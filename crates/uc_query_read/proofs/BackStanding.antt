-- Where the cursors of a walk against the order of keys stand.
use Rattle.std.proofs.Common.{◌≡◌, ℕ, ◌≤◌, min, true, false, List, [], ◌∷◌, map, filter, length, Option, Some, None, refl, sym, ap, ◌∙◌, subst, arith}
use Rattle.std.specs.Prelude.{reverse}
use Rattle.std.specs.List.{AllByRecursion}
use Rattle.std.proofs.lemmas.List.Sums.{length-filter}
use Rattle.uc_run_entry.specs.declared.entry.Entry.{Entry}
use Rattle.uc_run_entry.specs.Run.{Contents}
use Rattle.uc_run_entry.specs.Seek.{is_passed, seek_place}
use Rattle.uc_run.specs.BackCursors.{is_before, end_place, IsGreatestKey, IsPreviousKey}
use Rattle.uc_run.specs.Cursors.{Standing}
use Rattle.uc_run.proofs.Order.{key_passed}
use Rattle.uc_compact.proofs.Keys.{lt_of}
use Rattle.uc_compact.specs.Inputs.{points_of}
use Rattle.uc_query_read.specs.Ahead.{keys_ahead}
use Rattle.uc_query_read.specs.Back.{back_walk_at, bound_of, standing_below, StandsBelow, passed_back}
use Rattle.uc_query_read.specs.Walks.{Walk, runs_of}
use Rattle.uc_query_read.proofs.BackKeys.{no_key, too_low, comes_last}
use Rattle.uc_query_read.proofs.Standing.{more_length}

-- ---- at the start

pub all_start : (high : Option (List ℕ)) (runs : List Contents) → AllByRecursion (StandsBelow high) (map (standing_below high) runs)
all_start high [] = tt
all_start high (r ∷ rs) = (refl, all_start high rs)

pub runs_start : (high : Option (List ℕ)) (runs : List Contents) → runs_of (map (standing_below high) runs) ≡ runs
runs_start high [] = refl
runs_start high (r ∷ rs) = ap (λ (runs : List Contents). r ∷ runs) (runs_start high rs)

-- a bound that isn't included is the key itself
pub not_included : (high : Option (List ℕ)) → bound_of high false ≡ high
not_included None = refl
not_included (Some key) = refl

-- ---- before a key's points once it was passed

weaker : (high : Option (List ℕ)) (key x : List ℕ) → is_before high key ≡ true → is_passed key false x ≡ true → is_before high x ≡ true
weaker None key x below passed = refl
weaker (Some high) key x below passed = key_passed high x key false (lt_of x key passed) below

module _ (high : Option (List ℕ)) (key : List ℕ) (below : is_before high key ≡ true) where
  no_further : (ps : List Entry) → seek_place ps key false ≤ end_place ps high
  no_further ps =
      let le : length (filter (λ p. is_passed key false p.key) ps) ≤ length (filter (λ p. is_before high p.key) ps) = more_length (λ p. is_passed key false p.key) (λ p. is_before high p.key) (λ p passed. weaker high key p.key below passed) ps in
      let a : length (filter (λ p. is_passed key false p.key) ps) ≡ seek_place ps key false = length-filter (λ p. is_passed key false p.key) ps in
      let b : length (filter (λ p. is_before high p.key) ps) ≡ end_place ps high = length-filter (λ p. is_before high p.key) ps in
      omega (arith, le, a, b)

  pub one_before : (n : ℕ) (ps : List Entry) → n ≡ end_place ps high → min n (seek_place ps key false) ≡ seek_place ps key false
  one_before n ps e = let le : seek_place ps key false ≤ end_place ps high = no_further ps in omega (arith, e, le)

  pub all_before : (cs : List Standing) → AllByRecursion (StandsBelow high) cs → AllByRecursion (StandsBelow (Some key)) (map (passed_back key) cs)
  all_before [] h = tt
  all_before (c ∷ cs) h = (one_before c.place c.run.points h.0, all_before cs h.1)

runs_stay : (key : List ℕ) (cs : List Standing) → runs_of (map (passed_back key) cs) ≡ runs_of cs
runs_stay key [] = refl
runs_stay key (c ∷ cs) = ap (λ (runs : List Contents). c.run ∷ runs) (runs_stay key cs)

-- ---- a step

-- a walk, the cursors that it holds, and the greatest key that was found
pub record Looks (walk : Walk) (cursors : List Standing) (low : List ℕ) (high found : Option (List ℕ)) : Type 0 where
  pub is : back_walk_at low high (runs_of cursors) ≡ walk
  pub there : AllByRecursion (StandsBelow high) cursors
  pub greatest : (bound : Option (List ℕ)) → AllByRecursion (StandsBelow bound) cursors → IsPreviousKey (points_of (runs_of cursors)) bound found

module _ (walk : Walk) (cursors : List Standing) (low : List ℕ) (high found : Option (List ℕ)) (looks : Looks walk cursors low high found) where
  abbrev points : List Entry
  points = points_of (runs_of cursors)

  previous : IsPreviousKey points high found
  previous = looks.greatest high looks.there

  keys_are : walk.keys ≡ reverse (keys_ahead points low false high)
  keys_are = sym (ap (λ (w : Walk). w.keys) looks.is)

  pub ends : found ≡ None → walk.keys ≡ []
  ends none = keys_are ∙ ap reverse (no_key points low high (subst (IsPreviousKey points high) none previous))

  module _ (key : List ℕ) (some : found ≡ Some key) where
    greatest_is : IsGreatestKey points high key
    greatest_is = subst (IsPreviousKey points high) some previous

    pub too_far : is_passed low false key ≡ true → walk.keys ≡ []
    too_far out = keys_are ∙ ap reverse (too_low points low high key greatest_is out)

    module _ (moved : List Standing) (passes : moved ≡ map (passed_back key) cursors) where
      pub stand_before : AllByRecursion (StandsBelow (Some key)) moved
      stand_before = subst (AllByRecursion (StandsBelow (Some key))) (sym passes) (all_before high key greatest_is.below cursors looks.there)

      stay : runs_of moved ≡ runs_of cursors
      stay = ap runs_of passes ∙ runs_stay key cursors

      pub same_runs : runs_of moved ≡ walk.runs
      same_runs = stay ∙ ap (λ (w : Walk). w.runs) looks.is

      pub comes : is_passed low false key ≡ false → walk.keys ≡ key ∷ reverse (keys_ahead (points_of (runs_of moved)) low false (Some key))
      comes fresh =
          keys_are
          ∙ comes_last points low high key greatest_is fresh
          ∙ ap (λ (runs : List Contents). key ∷ reverse (keys_ahead (points_of runs) low false (Some key))) (sym stay)
