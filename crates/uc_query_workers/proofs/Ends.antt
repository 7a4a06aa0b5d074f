-- Lists of what was and what is now, taken from their end.
use Rattle.std.proofs.Common.{◌≡◌, suc, List, [], ◌∷◌, ◌++◌, length, ap, refl, subst, sym}
use Rattle.std.specs.List.{AllZip}
use Rattle.uc_query_read.specs.declared.answer.Answer.{Answer}
use Rattle.uc_query_read.specs.declared.query.Query.{Query}
use Rattle.uc_query_workers.specs.Given.{GivenBySome}
use Rattle.uc_query_workers.proofs.Zips.{some_before, some_last}

module _ {X : Type 0} (R : X → X → Type 0) where
  -- one more is appended
  zip_more : (xs ys : List X) (x y : X) → AllZip R xs ys → R x y → AllZip R (xs ++ x ∷ []) (ys ++ y ∷ [])
  zip_more [] [] x y all one = (one, tt)
  zip_more [] (z ∷ ys) x y all one = absurd all
  zip_more (z ∷ xs) [] x y all one = absurd all
  zip_more (z ∷ xs) (w ∷ ys) x y all one = (all.0, zip_more xs ys x y all.1 one)

  pub last_goes : (all more xs ys : List X) (x y : X) → all ≡ xs ++ x ∷ [] → more ≡ ys ++ y ∷ [] → AllZip R xs ys → R x y → AllZip R all more
  last_goes all more xs ys x y is now others one =
      subst (λ zs. AllZip R zs more) (sym is) (subst (λ zs. AllZip R (xs ++ x ∷ []) zs) (sym now) (zip_more xs ys x y others one))

  -- both are as long
  pub zip_length : (xs ys : List X) → AllZip R xs ys → length xs ≡ length ys
  zip_length [] [] all = refl
  zip_length [] (y ∷ ys) all = absurd all
  zip_length (x ∷ xs) [] all = absurd all
  zip_length (x ∷ xs) (y ∷ ys) all = ap suc (zip_length xs ys all.1)

-- an answer that one of them may give, where one more is appended to the others
module _ {X : Type 0} (gives : X → X → Query → Answer → Type 0) (all more xs ys : List X) (x y : X) (is : all ≡ xs ++ x ∷ []) (now : more ≡ ys ++ y ∷ []) (query : Query) (answer : Answer) where
  at_ends : GivenBySome gives (xs ++ x ∷ []) (ys ++ y ∷ []) query answer → GivenBySome gives all more query answer
  at_ends some =
      subst (λ zs. GivenBySome gives zs more query answer) (sym is) (subst (λ zs. GivenBySome gives (xs ++ x ∷ []) zs query answer) (sym now) some)

  pub others_give : GivenBySome gives xs ys query answer → GivenBySome gives all more query answer
  others_give some = at_ends (some_before (λ a b. gives a b query answer) xs ys x y some)

  pub last_gives : (R : X → X → Type 0) → AllZip R xs ys → gives x y query answer → GivenBySome gives all more query answer
  last_gives R others one = at_ends (some_last (λ a b. gives a b query answer) R xs ys x y others one)
