-- The contents of a view's handle.
use Rattle.std.specs.Prelude.{◌≡◌, ◌⊎◌, ℤ, Option, Some, MatchOption}
use Rattle.uc_engine.specs.EngineViews.{Viewed}
use Rattle.uc_c.specs.declared.status.TheConstants.{OK, OUT_OF_MEMORY, HAS_VIEW}

module _ {X : Type 0} (lack : ℤ) (taken : X → Viewed) (from : Option X) (status : ℤ) (old new : Option Viewed) where
  -- The view is there, or allocation failed.
  abbrev pub HoldsTaken : X → Type 0
  HoldsTaken x = ((status ≡ OK) × (new ≡ Some (taken x))) ⊎ ((status ≡ OUT_OF_MEMORY) × (new ≡ old))

  -- so it is, if there was no view yet, and something that it is taken of; else the status says so
  abbrev pub PutsTaken : Type 0
  PutsTaken = MatchOption old
      (MatchOption from ((status ≡ lack) × (new ≡ old)) HoldsTaken)
      (λ _. (status ≡ HAS_VIEW) × (new ≡ old))
