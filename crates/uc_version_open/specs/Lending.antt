-- Full memtables that are lent to other threads, which flush them.
use Rattle.std.specs.Prelude.{◌≡◌, ℕ, List, [], ◌++◌, length, Option, Some, None}
use Rattle.std.specs.Option.{IfSome}
use Rattle.uc_run_entry.specs.Run.{Contents}
use Rattle.uc_version_open.specs.Progress.{Flushing}

-- the elements of what may be there
abbrev pub items_in : {V X : Type 0} → (V → List X) → Option V → List X
items_in items None = []
items_in items (Some v) = items v

-- a part of a list, after `place` elements
pub record StandsAt (place : ℕ) (part whole : List Contents) : Type 0 where
  pub before : List Contents
  pub after : List Contents
  pub whole_is : whole ≡ before ++ (part ++ after)
  pub place_is : length before ≡ place

-- these runs stand there among those of memtables, unless these were dropped
abbrev pub StandsIn : ℕ → List Contents → Option Flushing → Type 0
StandsIn place part held = IfSome held (λ f. StandsAt place part f.runs)
