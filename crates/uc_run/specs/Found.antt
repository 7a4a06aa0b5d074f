-- The result of a lookup before it reads points.
use Rattle.std.specs.Prelude.{◌≡◌, ℕ, true, List, Option, Some, None}
use Rattle.std.specs.List.{slice_get}
use Rattle.uc_oper.specs.declared.effect.Effect.{Effect}
use Rattle.uc_oper.specs.declared.effect.Effect.TheVariants.{Keep, Set}
use Rattle.uc_run_entry.specs.declared.entry.Entry.{Entry}
use Rattle.uc_run_entry.specs.declared.entry.What.TheVariants.{Put}
use Rattle.uc_run_entry.specs.Lookup.{is_visible}
use Rattle.uc_run.specs.Places.{is_on}

-- nothing, or the newest range deletion, which sets no value
abbrev pub before_points : Option ℕ → Effect
before_points None = Keep
before_points (Some newest) = Set None

-- the first of some points puts a value of a key, at or below a sequence, and above another if there is one
pub record IsPutFirst (points : List Entry) (key : List ℕ) (at : ℕ) (above : Option ℕ) (value : List ℕ) : Type 0 where
  pub point : Entry
  pub first : slice_get points 0 ≡ Some point
  pub visible : is_visible key at point ≡ true
  pub on : is_on key above point ≡ true
  pub puts : point.what ≡ Put value
