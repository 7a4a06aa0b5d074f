-- Operands of the operator `mixed` as C gets them.
use Rattle.std.specs.Prelude.{◌≡◌, ◌⊎◌, ◌<◌, ◌≤◌, ◌^◌, ℕ, ℤ, Bool, true, false, List, Option, Some, None, length}
use Rattle.uc_mixed.specs.declared.part_kind.PartKind.{PartKind}
use Rattle.uc_mixed.specs.Kinds.{kind_numbered}
use Rattle.uc_mixed.specs.Parts.{part_bytes}
use Rattle.uc_mixed.specs.Operands.{has_shape}
use Rattle.uc_c.specs.declared.status.TheConstants.{OK, OUT_OF_MEMORY, ROOM, TOO_LONG, UNKNOWN_OPERATOR, BAD_OPERAND}
use Rattle.uc_c.specs.Room.{filled}

-- bytes are an operand, or the status says that they aren't
abbrev pub SaysOperand : ℤ → Bool → Type 0
SaysOperand status true = status ≡ OK
SaysOperand status false = status ≡ BAD_OPERAND

module _ (status : ℤ) (payload room room' : List ℕ) (size size' : ℕ) where
  -- The operand is in the buffer.
  pub record HasOperand (kind : PartKind) : Type 0 where
    pub shaped : has_shape kind payload ≡ true
    pub fits : length (part_bytes kind payload) ≤ length room
    pub told : status ≡ OK
    pub written : room' ≡ filled (part_bytes kind payload) room
    pub size_is : size' ≡ length (part_bytes kind payload)

  -- The operand doesn't fit the buffer, and its length is stored.
  pub record LacksOperand (kind : PartKind) : Type 0 where
    pub shaped : has_shape kind payload ≡ true
    pub above : length room < length (part_bytes kind payload)
    pub told : status ≡ ROOM
    pub kept : room' ≡ room
    pub size_is : size' ≡ length (part_bytes kind payload)

  -- Nothing is stored: the payload is too long or hasn't the operator's shape, or an allocation failed.
  abbrev pub RefusesPayload : PartKind → Type 0
  RefusesPayload kind =
      (((status ≡ BAD_OPERAND) × (has_shape kind payload ≡ false)) ⊎ (((status ≡ TOO_LONG) × (2 ^ 32 ≤ length payload)) ⊎ (status ≡ OUT_OF_MEMORY)))
      × (room' ≡ room) × (size' ≡ size)

  abbrev pub LaysOfKind : Option PartKind → Type 0
  LaysOfKind None = (status ≡ UNKNOWN_OPERATOR) × (room' ≡ room) × (size' ≡ size)
  LaysOfKind (Some kind) = HasOperand kind ⊎ (LacksOperand kind ⊎ RefusesPayload kind)

-- the operand of an operator is stored, or the reason why not
abbrev pub LaysOperand : ℤ → ℕ → ℕ → List ℕ → List ℕ → List ℕ → ℕ → ℕ → Type 0
LaysOperand status operator parameter payload room room' size size' = LaysOfKind status payload room room' size size' (kind_numbered operator parameter)
