-- Additions at the end of operands.
use Rattle.std.specs.Prelude.{◌≡◌, ℕ, ◌-◌, ◌≤◌, List, [], ◌∷◌, ◌++◌, length, take}
use Rattle.std.specs.Int.{w64, to_le_bytes}
use Rattle.uc_oper.specs.Counting.{number}
use Rattle.uc_mixed.specs.declared.part_kind.PartKind.TheVariants.{Add}
use Rattle.uc_mixed.specs.Parts.{part_bytes}
use Rattle.uc_mixed.specs.Mixing.{paired}

-- the last part adds this number
pub record AddsAtEnd (operand : List ℕ) (n : ℕ) : Type 0 where
  pub payload : List ℕ
  pub long : 10 ≤ length operand
  pub spelled : operand ≡ take (length operand - 10) operand ++ part_bytes Add payload
  pub number_is : n ≡ number payload

-- the pair of two operands has this number in the last part
pub record IsSumAtSeam (older newer : List ℕ) (n : ℕ) : Type 0 where
  pub long : 10 ≤ length older
  pub pair_is : paired older newer ≡ take (length older - 10) older ++ (to_le_bytes w64 n ++ (8 ∷ 1 ∷ []))
