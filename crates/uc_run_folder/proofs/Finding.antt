-- Openings by the names that a folder lists find the runs that are read.
use Rattle.std.proofs.Common.{◌≡◌, ℕ, suc, ◌<◌, ◌≤◌, Bool, true, false, cond, eqb, eq-eqb, ◌&&◌, ◌||◌, ◌⊎◌, inl, inr, ⊎_elim, List, [], ◌∷◌, refl, sym, ap, ◌∙◌, subst, arith}
use Rattle.std.specs.Prelude.{Option, Some, None, Result, Ok, Err, max, not, fold}
use Rattle.std.proofs.lemmas.Bool.{cases_lt, eqb-true, or_cases}
use Rattle.uc_folder.specs.Device.{Batch, File, is_there, highest}
use Rattle.uc_run_folder.specs.declared.listing.RunFault.{RunFault}
use Rattle.uc_run_folder.specs.declared.listing.RunFault.TheVariants.{Missing, Spent}
use Rattle.uc_run_folder.specs.Steps.{has_run, are_among}
use Rattle.uc_run_folder.specs.Files.{Files, IsRunOf, AreRead}
use Rattle.uc_run_folder.specs.Listing.{greatest_in, missing_in, AreFound, IsRunListing, IsNextOf}
use Rattle.uc_run_folder.proofs.Lists.{highest_passes, highest_above}
use Rattle.uc_run_folder.proofs.Keeping.{Each, IsGone}

-- ---- the first run that isn't there

or_left : (a b : Bool) → a ≡ true → (a || b) ≡ true
or_left true b e = refl
or_left false b e = absurd (cc)

or_right : (a b : Bool) → b ≡ true → (a || b) ≡ true
or_right true b e = refl
or_right false b e = e

pub missing_some : (named listed : List ℕ) (r : ℕ) → missing_in named listed ≡ Some r → (has_run r named ≡ true) × (has_run r listed ≡ false)
missing_some [] listed r e = absurd (cc)
missing_some (x ∷ xs) listed r e = by_test (missing_some xs listed r) (has_run x listed) refl e
  where
    by_test : (missing_in xs listed ≡ Some r → (has_run r xs ≡ true) × (has_run r listed ≡ false)) → (b : Bool) → has_run x listed ≡ b → cond (not b) (Some x) (missing_in xs listed) ≡ Some r → (has_run r (x ∷ xs) ≡ true) × (has_run r listed ≡ false)
    by_test later true here e = let rest = later e in (or_right (eqb x r) (has_run r xs) rest.0, rest.1)
    by_test later false here e =
        let same : x ≡ r = cc in
        (or_left (eqb x r) (has_run r xs) (eq-eqb x r same), subst (λ k. has_run k listed ≡ false) same here)

pub missing_none : (named listed : List ℕ) → missing_in named listed ≡ None → are_among named listed ≡ true
missing_none [] listed e = refl
missing_none (x ∷ xs) listed e = by_test (missing_none xs listed) (has_run x listed) e
  where
    by_test : (missing_in xs listed ≡ None → are_among xs listed ≡ true) → (b : Bool) → cond (not b) (Some x) (missing_in xs listed) ≡ None → (b && are_among xs listed) ≡ true
    by_test later true e = later e
    by_test later false e = absurd (cc)

-- ---- the greatest number of a run

abbrev most : ℕ → List ℕ → ℕ
most a rs = fold (λ m (r : ℕ). max m r) a rs

most_least : (a : ℕ) (rs : List ℕ) → a ≤ most a rs
most_least a [] = omega arith
most_least a (r ∷ rs) = let le = most_least (max a r) rs in omega (arith, le)

most_above : (a k : ℕ) (rs : List ℕ) → has_run k rs ≡ true → k ≤ most a rs
most_above a k [] e = absurd (cc)
most_above a k (r ∷ rs) e =
    ⊎_elim
    (λ (here : eqb r k ≡ true). let same = eqb-true r k here in let le = most_least (max a r) rs in omega (arith, same, le))
    (λ (there : has_run k rs ≡ true). most_above (max a r) k rs there)
    (or_cases (eqb r k) (has_run k rs) e)

most_is : (a : ℕ) (rs : List ℕ) → (most a rs ≡ a) ⊎ (has_run (most a rs) rs ≡ true)
most_is a [] = inl refl
most_is a (r ∷ rs) =
    ⊎_elim
    (λ (same : most (max a r) rs ≡ max a r).
    ⊎_elim
    (λ (lt : a < r). let one : r ≡ most (max a r) rs = omega (arith, same, lt) in inr (or_left (eqb r (most (max a r) rs)) (has_run (most (max a r) rs) rs) (eq-eqb r (most (max a r) rs) one)))
    (λ (le : r ≤ a). inl (omega (arith, same, le)))
    (cases_lt a r))
    (λ (there : has_run (most (max a r) rs) rs ≡ true). inr (or_right (eqb r (most (max a r) rs)) (has_run (most (max a r) rs) rs) there))
    (most_is (max a r) rs)

gone_there : (o : Option File) → IsGone o → is_there o ≡ true → ⊥
gone_there None is e = let x : false ≡ true = e in cc
gone_there (Some f) is e = is

-- ---- openings

module _ (f : Files) (bounded : (r : ℕ) → f.bound < r → Each IsGone (f.runs r).now (f.runs r).before) (listed : List ℕ) (is : IsRunListing f listed) where
  greatest_is : greatest_in listed ≡ highest (λ r. is_there (f.runs r).now) f.bound
  greatest_is =
      let h = highest (λ r. is_there (f.runs r).now) f.bound in
      let g = most 0 listed in
      let lower : h ≤ g =
      ⊎_elim (λ (e : h ≡ 0). omega (arith, e)) (λ (there : is_there (f.runs h).now ≡ true). most_above 0 h listed (is h ∙ there)) (highest_passes (λ r. is_there (f.runs r).now) f.bound) in
      let upper : g ≤ h =
      ⊎_elim
      (λ (e : g ≡ 0). omega (arith, e))
      (λ (there : has_run g listed ≡ true).
      let here : is_there (f.runs g).now ≡ true = sym (is g) ∙ there in
      ⊎_elim
      (λ (over : f.bound < g). absurd (gone_there (f.runs g).now (bounded g over).0 here))
      (λ (le : g ≤ f.bound). highest_above (λ r. is_there (f.runs r).now) f.bound g le here)
      (cases_lt f.bound g))
      (most_is 0 listed) in
      omega (arith, lower, upper)

  run_there : (xs : List Batch) (o : Option File) → IsRunOf xs o → is_there o ≡ true
  run_there xs None read = absurd read
  run_there xs (Some x) read = refl

  named_listed : (rows : ℕ → List Batch) (named : List ℕ) (r : ℕ) → AreRead rows f.runs named → has_run r named ≡ true → has_run r listed ≡ true
  named_listed rows [] r read e = absurd (cc)
  named_listed rows (x ∷ xs) r read e =
      ⊎_elim
      (λ (here : eqb x r ≡ true). is r ∙ subst (λ k. is_there (f.runs k).now ≡ true) (eqb-true x r here) (run_there (rows x) (f.runs x).now read.0))
      (λ (there : has_run r xs ≡ true). named_listed rows xs r read.1 there)
      (or_cases (eqb x r) (has_run r xs) e)

  pub next_is : (rows : ℕ → List Batch) (named : List ℕ) → AreRead rows f.runs named → (result : Result ℕ RunFault) → AreFound named listed result → IsNextOf f result
  next_is rows named read (Ok next) found = found.1 ∙ ap (λ n. suc n) greatest_is
  next_is rows named read (Err (Missing r)) found = let there = named_listed rows named r read found.0 in let gone = found.1 in let x : true ≡ false = sym there ∙ gone in cc
  next_is rows named read (Err (Spent r)) found =
      let same = found.0 in
      let large = found.1 in
      ⊎_elim
      (λ (e : most 0 listed ≡ 0). absurd (omega (arith, same, large, e)))
      (λ (there : has_run (most 0 listed) listed ≡ true). (sym (is r) ∙ subst (λ k. has_run k listed ≡ true) (sym same) there, large))
      (most_is 0 listed)
