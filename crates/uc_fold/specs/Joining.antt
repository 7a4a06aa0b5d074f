-- The laws of joining parts, by which a fold of them may be cut anywhere.
use Rattle.std.specs.Prelude.{◌≡◌}

-- parts may be joined in any grouping, and the unit changes no part that a program can hold
pub record IsLawful {P : Type 0} (fits : P → Type 0) (unit : P) (join : P → P → P) : Type 0 where
  pub unit_fits : fits unit
  pub join_fits : (a b : P) → fits (join a b)
  pub left_unit : (a : P) → fits a → join unit a ≡ a
  pub right_unit : (a : P) → fits a → join a unit ≡ a
  pub assoc : (a b c : P) → join (join a b) c ≡ join a (join b c)
