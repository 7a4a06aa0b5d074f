-- A table and its tokens, as a contract sees them.
use Rattle.std.specs.Prelude.{◌≡◌, ℕ, ◌<◌, ◌≤◌, ◌==◌, Bool, false, not, ⊤, List, [], ◌∷◌, ◌++◌, All, Contains}
use Rattle.std.specs.List.{filter, list_any}
use Rattle.atomic_table.specs.Seated.{TableId}
use Rattle.uc_claims.specs.declared.table.TheConstants.{MOST_SLOTS}

-- which table it is, and how many slots it has
pub record Slots : Type 0 where
  pub table : TableId
  pub count : ℕ

-- what a seat has: its table, whether it was never split, and the slots that it holds, in the order in which they were taken
pub record Holding : Type 0 where
  pub table : TableId
  pub whole : Bool
  pub slots : List ℕ

-- a seat that holds nothing
abbrev pub free_seat : TableId → Bool → Holding
free_seat table whole = record { table = table; whole = whole; slots = [] }

-- no slot is in the list twice
abbrev pub AreDistinct : List ℕ → Type 0
AreDistinct [] = ⊤
AreDistinct (slot ∷ slots) = (list_any (λ x. x == slot) slots ≡ false) × AreDistinct slots

-- the slots that stay, in their order, after those of `gone` are given back
abbrev pub without : List ℕ → List ℕ → List ℕ
without gone slots = filter (λ slot. not (list_any (λ x. x == slot) gone)) slots

-- none of the slots asked for is held
abbrev pub NoneHeld : List ℕ → List ℕ → Type 0
NoneHeld asked held = All (λ slot. ¬ Contains held slot) asked

-- the first of the slots asked for that is held
abbrev pub IsFirstHeld : List ℕ → List ℕ → ℕ → Type 0
IsFirstHeld asked held slot = (before : List ℕ) × (rest : List ℕ) × (asked ≡ before ++ slot ∷ rest) × NoneHeld before held × Contains held slot

-- a table of words alone; the parameter of its rule is their number
pub record IsLaid (key : ℕ) (table : TableId) : Type 0 where
  pub keyed : key ≡ table.words
  pub some : 0 < table.words
  pub few : table.words ≤ MOST_SLOTS
  pub plain : table.slots ≡ 0
