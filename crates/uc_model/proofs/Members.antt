-- The elements of a list: its first one and the others.
use Rattle.std.proofs.Common.{◌≡◌, ℕ, zero, suc, ◌<◌, List, [], ◌∷◌, length, get_or, Contains, Any, ◌⊎◌, inl, inr, refl, sym, subst, arith}

module _ {X : Type 0} where
  pub contains_first : (y x : X) (ys : List X) → y ≡ x → Contains (y ∷ ys) x
  contains_first y x ys e = (0, omega arith, e)

  pub contains_later : (y x : X) (ys : List X) → Contains ys x → Contains (y ∷ ys) x
  contains_later y x ys c = (suc c.0, omega (arith, c.1), c.2)

  by_place : (y x : X) (ys : List X) (k : ℕ) → k < length (y ∷ ys) → get_or (y ∷ ys) k x ≡ x → (y ≡ x) ⊎ Contains ys x
  by_place y x ys zero l e = inl e
  by_place y x ys (suc k) l e = inr (k, omega arith, e)

  -- what stands in a list is its first element, or stands among the others
  pub contains_cases : (y x : X) (ys : List X) → Contains (y ∷ ys) x → (y ≡ x) ⊎ Contains ys x
  contains_cases y x ys c = by_place y x ys c.0 c.1 c.2

  pub contains_nothing : (x : X) → Contains [] x → ⊥
  contains_nothing x c = omega (arith, c.1)

  pub any_first : (P : X → Type 0) (y : X) (ys : List X) → P y → Any P (y ∷ ys)
  any_first P y ys p = (0, y, omega arith, refl, p)

  pub any_later : (P : X → Type 0) (y : X) (ys : List X) → Any P ys → Any P (y ∷ ys)
  any_later P y ys a = (suc a.0, a.1, omega (arith, a.2), a.3, a.4)

  any_by_place : (P : X → Type 0) (y x : X) (ys : List X) (k : ℕ) → k < length (y ∷ ys) → get_or (y ∷ ys) k x ≡ x → P x → P y ⊎ Any P ys
  any_by_place P y x ys zero l e p = inl (subst P (sym e) p)
  any_by_place P y x ys (suc k) l e p = inr (k, x, omega arith, e, p)

  -- where some element has P, the first has it or one of the others
  pub any_cases : (P : X → Type 0) (y : X) (ys : List X) → Any P (y ∷ ys) → P y ⊎ Any P ys
  any_cases P y ys a = any_by_place P y a.1 ys a.0 a.2 a.3 a.4

  pub any_of_none : (P : X → Type 0) → Any P [] → ⊥
  any_of_none P a = omega (arith, a.2)
