-- The bytes that one read adds to the input.
use Rattle.std.specs.Prelude.{◌≡◌, ℕ, ◌+◌, ◌<◌, List, ◌++◌, length, Option}
use Rattle.std.specs.Io.KnownBytes.{Consumes}

-- the input grew by what the reader lost
abbrev pub Adds : Option (List ℕ) → Option (List ℕ) → List ℕ → List ℕ → Type 0
Adds old new before after = (added : List ℕ) × Consumes old new added × (after ≡ before ++ added)

-- with what the reader lost, the input would be longer than the limit
abbrev pub Exceeds : Option (List ℕ) → Option (List ℕ) → List ℕ → ℕ → Type 0
Exceeds old new before limit = (added : List ℕ) × Consumes old new added × (limit < length before + length added)
