-- Results of the functions, and the handle's contents before and after. E is the engine or the view as a contract sees it.
use Rattle.std.specs.Prelude.{◌≡◌, ℤ, Option, None, ◌⊎◌, MatchOption, IsSomeAnd}
use Rattle.uc_c.specs.declared.status.TheConstants.{OK, NO_STORE}

module _ {E : Type 0} (lack status : ℤ) (old new : Option E) where
  -- P holds of what is held, if anything is. Else the status says so, and nothing is.
  abbrev pub IfThere : (E → Type 0) → Type 0
  IfThere P = MatchOption old ((status ≡ lack) × (new ≡ None)) P

  -- it is read, and stays as it was
  abbrev pub IsRead : (E → Type 0) → Type 0
  IsRead P = IfThere (λ e. (new ≡ old) × P e)

  -- nothing is held any more, and the status says whether anything was
  abbrev pub Closes : Type 0
  Closes = (new ≡ None) × MatchOption old (status ≡ lack) (λ _. status ≡ OK)

module _ {E : Type 0} (status : ℤ) (old new : Option E) where
  -- P holds of the store, if there is one
  abbrev pub IfHeld : (E → Type 0) → Type 0
  IfHeld P = IfThere NO_STORE status old new P

  -- the store is read, and stays as it was
  abbrev pub Answers : (E → Type 0) → Type 0
  Answers P = IsRead NO_STORE status old new P

  -- P holds of the store before and after, if there is one
  abbrev pub Becomes : (E → E → Type 0) → Type 0
  Becomes P = IfHeld (λ e. IsSomeAnd new (P e))

-- the status says an error for which P holds
abbrev pub Names : {X : Type 0} → (X → ℤ → Type 0) → ℤ → (X → Type 0) → Type 0
Names {X} Says status P = (error : X) × Says error status × P error

module _ {E X : Type 0} (Says : X → ℤ → Type 0) (status : ℤ) (old new : Option E) where
  -- It succeeds, and Done holds of the store before and after; or it fails with an error that the status says, for which Fails
  -- holds.
  abbrev pub Tries : (E → E → Type 0) → (E → E → X → Type 0) → Type 0
  Tries Done Fails = Becomes status old new (λ e e'. ((status ≡ OK) × Done e e') ⊎ Names Says status (Fails e e'))
