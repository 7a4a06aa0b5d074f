-- The rule of the counter of pieces, the effect of a step on the seat that makes it, and the state that a contract sees.
use Rattle.std.specs.Prelude.{◌≡◌, ℕ, ◌+◌, ◌-◌, ◌<◌, ◌≤◌, ◌==◌, ◌^◌, nat_lt, nat_le, List, [], ◌∷◌, ◌++◌, length, slice_index, count_by, if◌then◌else◌}
use Rattle.std.specs.List.{sum_by, AllByRecursion}
use mathlib.Core.Option.{some}
use lib.ListN.{get_elem?}
use Rattle.atomic_table.specs.Table.{Me, Step}
use Rattle.atomic_table.specs.Seated.{TableId}
use Rattle.uc_query_workers.specs.declared.rule.Drawer.{Drawer}
use Rattle.uc_query_workers.specs.declared.rule.Shares.{Shares}

-- the seat that a new counter comes with has all parts
abbrev pub first_drawer : ℕ → Drawer
first_drawer workers = record { all = workers; parts = workers; numbers = [] }

-- the seat that gets one part of another
abbrev pub one_part : Drawer → Drawer
one_part v = record { all = v.all; parts = 1; numbers = [] }

abbrev pub one_part_less : Drawer → Drawer
one_part_less v = record { all = v.all; parts = v.parts - 1; numbers = v.numbers }

abbrev pub joined : Drawer → Drawer → Drawer
joined v w = record { all = v.all; parts = v.parts + w.parts; numbers = v.numbers ++ w.numbers }

-- the seat that gave all that it had to another
abbrev pub spent : Drawer
spent = record { all = 0; parts = 0; numbers = [] }

-- how often a number stands in a list
abbrev pub times : ℕ → List ℕ → ℕ
times number numbers = count_by (λ x. x == number) numbers

-- how often a number stands in the lists of all seats together
abbrev pub times_in_all : ℕ → List Drawer → ℕ
times_in_all number drawers = sum_by (λ (v : Drawer). times number v.numbers) drawers

-- how many numbers of a list are those of no piece
abbrev pub past : ℕ → List ℕ → ℕ
past pieces numbers = count_by (λ x. nat_le pieces x) numbers

-- The rule, of how many pieces and workers there are, the words and what all seats know
pub record Draws (shares : Shares) (words : List ℕ) (drawers : List Drawer) : Type 0 where
  pub one_word : length words ≡ 1
  pub told : (id : ℕ) (v : Drawer) → get_elem? drawers id ≡ some v → 0 < v.parts → v.all ≡ shares.workers
  pub shared : sum_by (λ (v : Drawer). v.parts) drawers ≡ shares.workers
  pub once : (number : ℕ) → times_in_all number drawers ≡ (if nat_lt number (slice_index words 0) then 1 else 0)
  pub idle : (id : ℕ) (v : Drawer) → get_elem? drawers id ≡ some v → v.parts ≡ 0 → v.numbers ≡ []
  pub few : (id : ℕ) (v : Drawer) → get_elem? drawers id ≡ some v → past shares.pieces v.numbers ≤ v.parts
  pub bound : slice_index words 0 ≤ shares.pieces + sum_by (λ (v : Drawer). past shares.pieces v.numbers) drawers

abbrev pub Sitting : Type 0
Sitting = Me (Unit {0}) Drawer

-- the word's old value is appended to the list, whose numbers are all below it
abbrev pub Drew : Step (Unit {0}) → Sitting → ℕ → Sitting → Type 0
Drew at before found after = (after.1 ≡ before.1) × (after.0 ≡ record { all = before.0.all; parts = before.0.parts; numbers = before.0.numbers ++ found ∷ [] }) × AllByRecursion (λ number. number < found) before.0.numbers

-- the numbers below one, each once
abbrev pub AreBelow : ℕ → List ℕ → Type 0
AreBelow bound numbers = (number : ℕ) → times number numbers ≡ (if nat_lt number bound then 1 else 0)

-- nothing changes, and a seat that has all parts has the numbers of all draws
abbrev pub Looked : Step (Unit {0}) → Sitting → ℕ → Sitting → Type 0
Looked at before found after = (after.1 ≡ before.1) × (after.0 ≡ before.0) × (0 < before.0.parts → before.0.parts ≡ before.0.all → AreBelow found before.0.numbers)

-- what a contract sees of a counter: which it is, and how many pieces and workers there are
pub record Counter : Type 0 where
  pub table : TableId
  pub pieces : ℕ
  pub workers : ℕ

-- what a contract sees of a seat: its counter, the parts of all seats, its own, and the numbers that it drew, in their order
pub record Drawing : Type 0 where
  pub table : TableId
  pub all : ℕ
  pub parts : ℕ
  pub numbers : List ℕ

-- a table of one word, whose rule has the numbers of pieces and workers as parameters
pub record IsLaid (pieces : ℕ) (key : Shares) (table : TableId) : Type 0 where
  pub kept : pieces ≡ key.pieces
  pub within : key.pieces + key.workers < 2 ^ 64
  pub words : table.words ≡ 1
  pub plain : table.slots ≡ 0
