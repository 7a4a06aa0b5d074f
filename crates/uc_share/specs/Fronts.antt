-- The version that readers see, and the history that leads to it.
use Rattle.std.specs.Prelude.{◌≡◌, ℕ, ◌<◌, ◌≤◌, Bool, true, List, [], ◌∷◌, ◌++◌, length, fold}
use mathlib.Core.Option.{some}
use lib.ListN.{get_elem?}
use Rattle.logbook.specs.Pages.{Book}
use Rattle.uc_oper.specs.Operation.{Operation}
use Rattle.atomic_table.specs.Seated.{TableId}
use Rattle.uc_claims.specs.Holding.{Holding}
use Rattle.uc_version_state.specs.Versions.{Stored, slots_of}
use Rattle.uc_version_state.specs.Installs.{standing}
use Rattle.uc_version_state.specs.Histories.{MayFollow, KeepsStay, after, ids_replaced}
use Rattle.uc_version_state.specs.declared.event.Event.{Event}

-- a version, and the events since the store was opened, of the history in a book
pub record Moment : Type 0 where
  pub book : Book
  pub version : Stored
  pub events : List Event

abbrev pub moment : Book → Stored → List Event → Moment
moment book v events = record { book = book; version = v; events = events }

-- events that may follow one another from the version that a store was opened with, and keep no sequence and release none if
-- its keeps stay
pub record AreSeen (m : Operation) (stay : Bool) (base : Stored) (events : List Event) : Type 0 where
  pub legal : MayFollow m base events
  pub keeps : stay ≡ true → KeepsStay events

-- it is of this book's history, and the events lead from the version that the store was opened with to the version
pub record IsMoment (m : Operation) (stay : Bool) (book : Book) (base : Stored) (s : Moment) : Type 0 where
  pub book_is : s.book ≡ book
  pub seen : AreSeen m stay base s.events
  pub version_is : s.version ≡ fold after base s.events

-- no view is above n
abbrev pub AllWithin : ℕ → List ℕ → Type 0
AllWithin n views = (seat v : ℕ) → get_elem? views seat ≡ some v → v ≤ n

-- The rule of what is shown: it is the store's, and no reader has seen more of the history than is shown
abbrev pub IsRuled : Operation → Bool → Book → Stored → Moment → List ℕ → Type 0
IsRuled m stay book base s views = IsMoment m stay book base s × AllWithin (length s.events) views

-- the result of a step: no less is shown than was seen, and all of it is then seen
abbrev pub Tells : Operation → Bool → Book → Stored → ℕ → Moment → Moment → ℕ → Type 0
Tells m stay book base v x y w = (v ≤ length x.events) × (w ≡ length y.events) × IsMoment m stay book base y

-- what is shown after an event
abbrev pub after_event : Event → Moment → Moment
after_event e s = moment s.book (after s.version e) (s.events ++ e ∷ [])

-- a seat of this table holds the slots of the runs that an event replaces in a version
pub record HoldsReplaced (table : TableId) (v : Stored) (e : Event) (seat : Holding) : Type 0 where
  pub of_table : seat.table ≡ table
  pub slots : slots_of (standing (ids_replaced e) v.runs) ≡ seat.slots

-- a store opens for this number of readers
pub record IsCount (readers : ℕ) : Type 0 where
  pub some : 0 < readers
  pub few : readers ≤ 128
