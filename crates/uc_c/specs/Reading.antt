-- The bytes that a lookup writes into the caller's buffer.
use Rattle.std.specs.Prelude.{◌≡◌, ℕ, ℤ, List, length, Option, Some, None}
use Rattle.uc_query_read.specs.declared.answer.Answer.{Answer}
use Rattle.uc_query_read.specs.declared.answer.Answer.TheVariants.{Value, Rows, NotProtected}
use Rattle.uc_c.specs.declared.status.TheConstants.{OK, NOT_FOUND, NOT_PROTECTED}
use Rattle.uc_c.specs.Room.{filled}

-- the value of a key, if it has one: it is in the buffer, and its size is stored
abbrev pub Found : ℤ → Option (List ℕ) → List ℕ → List ℕ → ℕ → Type 0
Found status (Some value) room room' size' = (status ≡ OK) × (room' ≡ filled value room) × (size' ≡ length value)
Found status None room room' size' = status ≡ NOT_FOUND

-- Rows answer no look-up.
abbrev pub IsLookedUp : Answer → Type 0
IsLookedUp (Value value) = Unit {0}
IsLookedUp (NotProtected at) = Unit {0}
IsLookedUp (Rows rows) = ⊥

-- the answer to a look-up at a snapshot
abbrev pub FoundAt : ℤ → Answer → List ℕ → List ℕ → ℕ → Type 0
FoundAt status (Value value) room room' size' = Found status value room room' size'
FoundAt status (NotProtected at) room room' size' = status ≡ NOT_PROTECTED
FoundAt status (Rows rows) room room' size' = ⊥
