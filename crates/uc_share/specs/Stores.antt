-- A store that threads share, as a contract sees it, and its opening.
use Rattle.std.specs.Prelude.{◌≡◌, ℕ, Bool, ◌&&◌, [], Option, Some, nat_lt, nat_le, if◌then◌else◌}
use Rattle.atomic_table.specs.Seated.{TableId}
use Rattle.logbook.specs.Pages.{Book}
use Rattle.uc_version_state.specs.declared.options.Options.{Options}
use Rattle.uc_version_state.specs.Versions.{Stored}
use Rattle.uc_version_state.specs.Openings as openings
use Rattle.uc_version_state.specs.Histories.{History}
use Rattle.uc_version_open.specs.Refusal.{opening_refusal}
use Rattle.uc_version_open.specs.declared.open_error.OpenError.{OpenError}
use Rattle.uc_version_open.specs.declared.open_error.OpenError.TheVariants.{BadCount}

-- its table of claim words, which its seats carry too, and how it is compacted
pub record Shared : Type 0 where
  pub table : TableId
  pub options : Options

-- One that was opened and has no name yet: the book of its history, its table of claim words, the version that it begins with,
-- how it is compacted, and for how many readers and seats.
pub record Opened : Type 0 where
  pub book : Book
  pub table : TableId
  pub version : Stored
  pub options : Options
  pub readers : ℕ
  pub seats : ℕ

-- a name that may be given to it
pub record IsNamed (o : Opened) (book : Book) (table : TableId) (base : Stored) : Type 0 where
  pub book_is : o.book ≡ book
  pub table_is : o.table ≡ table
  pub base_is : o.version ≡ base

-- whether a store opens for these numbers of readers and seats
abbrev pub are_counts : ℕ → ℕ → Bool
are_counts readers seats = nat_lt 0 readers && nat_le readers 128 && nat_le seats 64

-- why it isn't opened, if it isn't: these numbers aren't allowed, or the opening itself fails
abbrev pub shared_refusal : openings.Opening → ℕ → ℕ → Option OpenError
shared_refusal o readers seats = if are_counts readers seats then opening_refusal o else Some BadCount

-- a history that is an opening alone
abbrev pub beginning : openings.Opening → History
beginning o = record { opening = o; events = [] }

-- it begins with the version of an opening, is compacted as that says, and is for these numbers of readers and seats
pub record IsOpenedSo (store : Opened) (o : openings.Opening) (readers seats : ℕ) : Type 0 where
  pub version_is : store.version ≡ openings.opened o
  pub options_are : store.options ≡ o.options
  pub readers_are : store.readers ≡ readers
  pub seats_are : store.seats ≡ seats
