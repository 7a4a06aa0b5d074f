-- A fold of parts, some of which may be failed allocations.
use Rattle.std.proofs.Common.{◌≡◌, List, [], ◌∷◌, ◌++◌, fold, refl, sym, ap, ◌∙◌, IfOk, Ok, Err, Result, rules}
use Rattle.std.specs.List.{AllZip}
use Rattle.std.proofs.lemmas.List.Sums.{fold-append}
use Rattle.rayon.specs.Lists.{Reduces}
use Rattle.rayon.proofs.Reducing.{Reduces-elim}
use Rattle.uc_fold.specs.Joining.{IsLawful}
use Rattle.uc_fold.proofs.Cuts.{fold-cut}

module _ {P E : Type 0} where
  -- the parts that are there
  abbrev pub granted : List (Result P E) → List P
  granted [] = []
  granted (Ok p ∷ rs) = p ∷ granted rs
  granted (Err e ∷ rs) = granted rs

  -- those of two lists
  granted-append : (rs ss : List (Result P E)) → granted (rs ++ ss) ≡ granted rs ++ granted ss
  granted-append [] ss = refl
  granted-append (Ok p ∷ rs) ss = ap (λ l. p ∷ l) (granted-append rs ss)
  granted-append (Err e ∷ rs) ss = granted-append rs ss

  -- of parts that are all there, none is missing
  pub granted-all : (ps : List P) (rs : List (Result P E)) → AllZip (λ p r. r ≡ Ok p) ps rs → granted rs ≡ ps
  granted-all [] [] h = refl
  granted-all [] (r ∷ rs) h = absurd h
  granted-all (p ∷ ps) [] h = absurd h
  granted-all (p ∷ ps) (r ∷ rs) h = ap (λ q. granted (q ∷ rs)) h.0 ∙ ap (λ l. p ∷ l) (granted-all ps rs h.1)

-- the result of two parts if neither is a failed allocation; otherwise they make no part
abbrev pub JoinsTo : {P E : Type 0} → (P → P → P) → Result P E → Result P E → P → Type 0
JoinsTo join (Ok older) (Ok newer) both = both ≡ join older newer
JoinsTo join (Ok older) (Err e) both = ⊥
JoinsTo join (Err e) newer both = ⊥

module _ {P E : Type 0} {fits : P → Type 0} {unit : P} {join : P → P → P} (laws : IsLawful fits unit join) where
  -- an `Ok` is the fold of the parts that are there
  abbrev pub IsFold : List (Result P E) → Result P E → Type 0
  IsFold rs r = IfOk r (λ whole. whole ≡ fold join unit (granted rs))

  -- of no parts
  fold_none : (r : Result P E) → r ≡ Ok unit → IsFold [] r
  fold_none (Ok w) h = search rules
  fold_none (Err e) h = tt

  -- of one part more
  fold_more : (rs : List (Result P E)) (a x r : Result P E) → IsFold rs a → IfOk r (JoinsTo join a x) → IsFold (rs ++ x ∷ []) r
  fold_more rs a x (Err e) h o = tt
  fold_more rs (Ok u) (Ok v) (Ok w) h o =
      o ∙ ap (λ s. join s v) h ∙ sym (ap (fold join unit) (granted-append rs (Ok v ∷ [])) ∙ fold-append join unit (granted rs) (v ∷ []))
  fold_more rs (Ok u) (Err e) (Ok w) h o = absurd o
  fold_more rs (Err e) x (Ok w) h o = absurd o

  -- of two pieces side by side
  fold_both : (rs ss : List (Result P E)) (a b r : Result P E) → IsFold rs a → IsFold ss b → IfOk r (JoinsTo join a b) → IsFold (rs ++ ss) r
  fold_both rs ss a b (Err e) h k o = tt
  fold_both rs ss (Ok u) (Ok v) (Ok w) h k o =
      o ∙ ap (λ s. join s v) h ∙ ap (join (fold join unit (granted rs))) k
      ∙ sym (ap (fold join unit) (granted-append rs ss) ∙ fold-cut laws (granted rs) (granted ss))
  fold_both rs ss (Ok u) (Err e) (Ok w) h k o = absurd o
  fold_both rs ss (Err e) b (Ok w) h k o = absurd o

  -- whatever the cut, what `reduce` makes of parts is their fold
  pub reduced : (identity : Result P E → Type 0) (op : Result P E → Result P E → Result P E → Type 0)
      → ((r : Result P E) → identity r → r ≡ Ok unit)
      → ((a b r : Result P E) → op a b r → IfOk r (JoinsTo join a b))
      → (rs : List (Result P E)) (r : Result P E) → Reduces identity op rs r → IsFold rs r
  reduced identity op starts joins =
      Reduces-elim identity op IsFold
      (λ r i. fold_none r (starts r i))
      (λ rs a x r h o. fold_more rs a x r h (joins a x r o))
      (λ rs ss a b r h k o. fold_both rs ss a b r h k (joins a b r o))
