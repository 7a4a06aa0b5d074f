-- A run as the bytes of a file: points, fragments, checksums, footer.
use Rattle.std.specs.Prelude.{◌≡◌, ℕ, ◌-◌, ◌+◌, ◌*◌, ◌<◌, ◌≤◌, List, ◌++◌, length, take, drop}
use Rattle.std.specs.List.{AllByRecursion}
use Rattle.uc_run_entry.specs.declared.entry.Entry.{Entry}
use Rattle.uc_run_entry.specs.Run.{Contents, IsRun}
use Rattle.uc_run_entry.specs.Fragment as seen
use Rattle.uc_run_points.specs.Spelling.{entries_text}
use Rattle.uc_run_file.specs.declared.footer.Footer.{Footer}
use Rattle.uc_run_file.specs.declared.run_fault.RunFault.{RunFault}
use Rattle.uc_run_file.specs.declared.run_fault.RunFault.TheVariants.{TooShort, Piece, Fragment, Point}
use Rattle.uc_run_file.specs.declared.run_fault.RunFileError.{RunFileError}
use Rattle.uc_run_file.specs.declared.run_fault.RunFileError.TheVariants.{Fault, Memory}
use Rattle.uc_run_points.specs.Faults as entries
use Rattle.uc_run_file.specs.Faults as spelling
use Rattle.uc_run_file.specs.Spelling.{fragments_text, Fits}
use Rattle.uc_run_file.specs.Pieces.{pieces_of, table_of, IsDamagedAt}
use Rattle.uc_run_file.specs.Footers.{footer_in, footer_text}

-- the points, then the fragments
abbrev pub body_of : Contents → List ℕ
body_of c = entries_text c.points ++ fragments_text c.fragments

abbrev pub footer_of : Contents → Footer
footer_of c = record {
  points_len = length (entries_text c.points);
  fragments_len = length (fragments_text c.fragments);
  points = length c.points;
  fragments = length c.fragments;
  low = c.low;
  high = c.high;
}

-- the checksums of a body, then a footer
abbrev pub tail_of : List ℕ → Footer → List ℕ
tail_of body footer = table_of body ++ footer_text footer (table_of body)

abbrev pub file_text : Contents → List ℕ
file_text c = body_of c ++ tail_of (body_of c) (footer_of c)

-- no run has these bytes
abbrev pub IsNoRun : List ℕ → Type 0
IsNoRun file = (c : Contents) → IsRun c.low c.high c.points c.fragments → file ≡ file_text c → ⊥

-- the lengths of points and fragments, and of all bytes before a footer
abbrev pub AreLens : ℕ → ℕ → ℕ → Type 0
AreLens points fragments front = points + fragments + 4 * pieces_of (points + fragments) ≡ front

-- a file, cut
pub record IsSplit (file points fragments table : List ℕ) (footer : Footer) : Type 0 where
  pub file_is : file ≡ points ++ (fragments ++ (table ++ footer_text footer table))
  pub points_are : footer.points_len ≡ length points
  pub fragments_are : footer.fragments_len ≡ length fragments
  pub table_is : length table ≡ 4 * pieces_of (length points + length fragments)
  pub read : footer ≡ footer_in (drop (length file - 64) file)

-- a file whose checksums are right, and whose fragments are read
pub record AreParts (file : List ℕ) (len : ℕ) (fs : List seen.Fragment) (footer : Footer) : Type 0 where
  pub within : len ≤ length file
  pub file_is : file ≡ (take len file ++ fragments_text fs) ++ tail_of (take len file ++ fragments_text fs) footer
  pub points_are : footer.points_len ≡ len
  pub fragments_are : footer.fragments_len ≡ length (fragments_text fs)
  pub fits : AllByRecursion Fits fs
  pub read : footer ≡ footer_in (drop (length file - 64) file)

-- the piece at an offset is the first that is damaged
pub record HasPiece (file : List ℕ) (offset : ℕ) : Type 0 where
  pub points : List ℕ
  pub fragments : List ℕ
  pub table : List ℕ
  pub footer : Footer
  pub split : IsSplit file points fragments table footer
  pub damaged : IsDamagedAt (take (length points + length fragments) file) table offset

-- the first fault of the fragments is at an offset
pub record HasFragment (file : List ℕ) (offset : ℕ) : Type 0 where
  pub points : List ℕ
  pub fragments : List ℕ
  pub table : List ℕ
  pub footer : Footer
  pub split : IsSplit file points fragments table footer
  pub place : ℕ
  pub fault : spelling.IsFaultAt fragments place
  pub at : offset ≡ length points + place

-- the first fault of the points is at an offset
pub record HasPoint (file : List ℕ) (offset : ℕ) : Type 0 where
  pub len : ℕ
  pub fault : entries.IsFaultAt (take len file) offset

-- what a fault says of the place where it is
abbrev pub IsNamed : List ℕ → RunFault → Type 0
IsNamed file TooShort = length file < 64
IsNamed file (Piece offset) = HasPiece file offset
IsNamed file (Fragment offset) = HasFragment file offset
IsNamed file (Point offset) = HasPoint file offset
IsNamed file _ = Unit {0}

-- the error that bytes give: unless memory runs out they are no run's, and it says where the fault is
abbrev pub IsRefusal : List ℕ → RunFileError → Type 0
IsRefusal file (Fault fault) = IsNoRun file × IsNamed file fault
IsRefusal file Memory = Unit {0}

-- the run of points and fragments with a footer
pub record AreRunOf (points : List Entry) (fragments : List seen.Fragment) (footer : Footer) (run : Contents) : Type 0 where
  pub is : run ≡ record { low = footer.low; high = footer.high; points = points; fragments = fragments }
  pub points_counted : length points ≡ footer.points
  pub fragments_counted : length fragments ≡ footer.fragments

-- points and fragments with a footer are no run, or others than the footer says
abbrev pub AreNoRun : List Entry → List seen.Fragment → Footer → Type 0
AreNoRun points fragments footer = IsRun footer.low footer.high points fragments → length points ≡ footer.points → length fragments ≡ footer.fragments → ⊥

abbrev pub IsRefusalOf : List Entry → List seen.Fragment → Footer → RunFileError → Type 0
IsRefusalOf points fragments footer (Fault fault) = AreNoRun points fragments footer × ((file : List ℕ) → IsNamed file fault)
IsRefusalOf points fragments footer Memory = Unit {0}
