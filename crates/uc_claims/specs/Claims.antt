-- The rule of the claim words, and the effect of a step on the seat that makes it.
use Rattle.std.specs.Prelude.{◌≡◌, ℕ, ◌<◌, ◌≤◌, ◌==◌, ◌/◌, ◌%◌, nat_lt, Bool, true, false, List, [], ◌∷◌, ◌++◌, length, slice_index, slice_index_or, count_by, Contains, MatchBool}
use Rattle.std.specs.List.{sum_by}
use Rattle.std.specs.Int.{bit_at}
use mathlib.Core.Option.{some}
use lib.ListN.{get_elem?}
use Rattle.atomic_table.specs.Table.{Me, Step}
use Rattle.uc_claims.specs.declared.rule.Claimant.{Claimant}
use Rattle.uc_claims.specs.Holding.{without}

abbrev pub claimant : Bool → List ℕ → Claimant
claimant whole slots = record { whole = whole; slots = slots }

-- the seat that a new table comes with
abbrev pub newcomer : Claimant
newcomer = claimant true []

-- how often a slot is in a list
abbrev pub times : ℕ → List ℕ → ℕ
times slot slots = count_by (λ x. x == slot) slots

-- how often a slot is in the lists of all seats together
abbrev pub times_in_all : ℕ → List Claimant → ℕ
times_in_all slot seats = sum_by (λ (v : Claimant). times slot v.slots) seats

-- The claim rule, of a table's number of slots, its words and what all seats know
pub record Claims (count : ℕ) (words : List ℕ) (seats : List Claimant) : Type 0 where
  pub a_word_each : length words ≡ count
  pub counted : (slot : ℕ) → slot < count → slice_index words slot ≡ times_in_all slot seats
  pub within : (slot : ℕ) → count ≤ slot → times_in_all slot seats ≡ 0
  pub once : (slot : ℕ) → times_in_all slot seats ≤ 1
  pub alone : (id : ℕ) (v : Claimant) → get_elem? seats id ≡ some v → v.whole ≡ true → length seats ≡ 1

-- the lists of two seats have no slot in common
abbrev pub AreApart : List Claimant → Type 0
AreApart seats =
    (id other : ℕ) (v w : Claimant) → get_elem? seats id ≡ some v → get_elem? seats other ≡ some w → ¬ (id ≡ other) → (slot : ℕ) → Contains v.slots slot → ¬ Contains w.slots slot

abbrev pub Sitting : Type 0
Sitting = Me (Unit {0}) Claimant

-- if 0 was found, the slot is appended to the list, which did not have it. Otherwise the list stays, and a whole seat's
-- list has the slot
abbrev pub Exchanged : Step (Unit {0}) → Sitting → ℕ → Sitting → Type 0
Exchanged at before found after =
    (after.1 ≡ before.1)
    × MatchBool (found == 0)
    ((after.0 ≡ claimant before.0.whole (before.0.slots ++ at.word ∷ [])) × (times at.word before.0.slots ≡ 0))
    ((after.0 ≡ before.0) × (before.0.whole ≡ true → 0 < times at.word before.0.slots))

-- the slot leaves the list
abbrev pub Gave : Step (Unit {0}) → Sitting → ℕ → Sitting → Type 0
Gave at before stored after = (after.1 ≡ before.1) × (after.0 ≡ claimant before.0.whole (without (at.word ∷ []) before.0.slots))

-- nothing changes, and a whole seat finds how often the slot is in its own list
abbrev pub Looked : Step (Unit {0}) → Sitting → ℕ → Sitting → Type 0
Looked at before found after = (after.1 ≡ before.1) × (after.0 ≡ before.0) × (before.0.whole ≡ true → found ≡ times at.word before.0.slots)

-- the bit of a slot, of groups that have a bit each for 64 slots
abbrev pub slot_bit : List ℕ → ℕ → ℕ
slot_bit groups slot = bit_at (slice_index groups (slot / 64)) (slot % 64)

-- A seat's record at run time: a bit for each slot, which is the number of times that the slot is in its list. The list has only
-- slots of the table
pub record Recorded (count : ℕ) (groups : List ℕ) (slots : List ℕ) : Type 0 where
  pub bits : (slot : ℕ) → slot_bit groups slot ≡ times slot slots
  pub inside : (slot : ℕ) → count ≤ slot → times slot slots ≡ 0

-- The meaning of the flags of a closed table: for some final lists of the seats that keep the rule, the slots that are still in one
-- of them. One of the seats closed it
pub record ShowsTaken (count : ℕ) (whole : Bool) (flags : List Bool) : Type 0 where
  pub words : List ℕ
  pub seats : List Claimant
  pub id : ℕ
  pub rule : Claims count words seats
  pub closer : get_elem? seats id ≡ some (claimant whole [])
  pub flagged : (slot : ℕ) → slice_index_or flags slot false ≡ nat_lt 0 (times_in_all slot seats)
