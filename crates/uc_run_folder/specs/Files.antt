-- The lists and run files of a directory, the effect of each operation on them, and the state that a crash leaves.
use Rattle.std.specs.Prelude.{◌≡◌, ℕ, suc, false, List, [], ◌∷◌, ◌++◌, Option, Some, None, slice_index_or, max, if◌then◌else◌}
use Rattle.std.specs.List.{AllByRecursion}
use Rattle.uc_folder.specs.Device.{Batch, Record, Torn, File, Entry, Keep, crashed_entry, rows_of, sealed, suspected, at, changed, stands_for, named, is_there, highest}
use Rattle.uc_folder.specs.declared.action.Action.{Action}
use Rattle.uc_folder.specs.declared.action.Action.TheVariants.{SyncNames, WriteBase, NameBase, RemoveBase}
use Rattle.uc_folder.specs.Worlds.{Outcome, Done, NotDone, PartDone, DoneUntold}

-- The runs that a list names: those of the file for which the name of the list stands, and of the files that it may stand for after a
-- crash, since the last sync of the names. They are in step with the files of a base's name.
pub record Names : Type 0 where
  pub now : Option (List ℕ)
  pub before : List (Option (List ℕ))

-- The lists by their numbers, the list under the temporary name, the run files by their numbers, and a number that no run exceeds.
pub record Files : Type 0 where
  pub lists : ℕ → Names
  pub partial : List ℕ
  pub runs : ℕ → Entry
  pub bound : ℕ

-- the runs that are read by a list's name
abbrev pub runs_of : Option (List ℕ) → List ℕ
runs_of None = []
runs_of (Some rs) = rs

-- a file is there with these rows, whole
abbrev pub IsRunOf : List Batch → Option File → Type 0
IsRunOf rows None = ⊥
IsRunOf rows (Some f) = f.kept ++ f.waiting ≡ rows_of rows

-- each of these runs is there, whole, as it was written
abbrev pub AreRead : (ℕ → List Batch) → (ℕ → Entry) → List ℕ → Type 0
AreRead rows runs rs = AllByRecursion (λ (r : ℕ). IsRunOf (rows r) (runs r).now) rs

-- the number after those of all runs that are there
abbrev pub next_in : Files → ℕ
next_in f = suc (highest (λ r. is_there (f.runs r).now) f.bound)

-- ---- a crash

abbrev pub crashed_names : Keep → Names → Names
crashed_names keep l = record { now = slice_index_or (l.now ∷ l.before) keep.which l.now; before = [] }

abbrev pub crashed_files : (ℕ → Keep) → (ℕ → Keep) → Files → Files
crashed_files bases runs f = record {
  lists = λ k. crashed_names (bases k) (f.lists k);
  partial = [];
  runs = λ r. crashed_entry (runs r) (f.runs r);
  bound = f.bound;
}

-- ---- operations on names

abbrev pub names_for : Option (List ℕ) → Names → Names
names_for o l = record { now = o; before = l.now ∷ l.before }

abbrev pub names_synced : Names → Names
names_synced l = record l { before = [] }

abbrev pub sync_files : Files → Files
sync_files f = record f { lists = λ k. names_synced (f.lists k); runs = λ r. named (f.runs r) }

-- the effect of an operation of the folder, which writes a list in place of a base
abbrev pub carried_files : List ℕ → Action → Files → Files
carried_files draft SyncNames f = sync_files f
carried_files draft (WriteBase n past) f = record f { partial = draft }
carried_files draft (NameBase n past) f = record f { lists = at n (names_for (Some f.partial) (f.lists n)) f.lists }
carried_files draft (RemoveBase k) f = record f { lists = at k (names_for None (f.lists k)) f.lists }
carried_files draft _ f = f

-- An operation that failed may have been done. One that is done in part has changed no name.
abbrev pub files_after : Outcome → List ℕ → Action → Files → Files
files_after Done draft a f = carried_files draft a f
files_after NotDone draft a f = f
files_after PartDone draft a f = f
files_after DoneUntold draft a f = carried_files draft a f

-- ---- operations on runs

abbrev pub name_run : ℕ → Option File → Files → Files
name_run r o f = record f { runs = at r (stands_for o (f.runs r)) f.runs; bound = max f.bound r }

abbrev pub change_run : ℕ → (File → File) → Files → Files
change_run r change f = record f { runs = at r (changed change (f.runs r)) f.runs }

-- a new file, which waits for a sync
abbrev pub new_file : List Record → File
new_file rs = record { kept = []; waiting = rs; lost = []; suspect = false; past = 0 }

-- a run is written, in part or whole
abbrev pub write_run : Outcome → ℕ → List Batch → Files → Files
write_run Done r rows f = name_run r (Some (new_file (rows_of rows))) f
write_run NotDone r rows f = f
write_run PartDone r rows f = name_run r (Some (new_file (Torn ∷ []))) f
write_run DoneUntold r rows f = name_run r (Some (new_file (rows_of rows))) f

-- a sync, which does nothing after one that failed
abbrev pub run_synced : File → File
run_synced f = if f.suspect then f else sealed f

abbrev pub sync_run : Outcome → ℕ → Files → Files
sync_run Done r f = change_run r run_synced f
sync_run NotDone r f = change_run r suspected f
sync_run PartDone r f = change_run r suspected f
sync_run DoneUntold r f = change_run r (λ file. suspected (run_synced file)) f

abbrev pub name_runs : Outcome → Files → Files
name_runs Done f = sync_files f
name_runs NotDone f = f
name_runs PartDone f = f
name_runs DoneUntold f = sync_files f

abbrev pub remove_run : Outcome → ℕ → Files → Files
remove_run Done r f = name_run r None f
remove_run NotDone r f = f
remove_run PartDone r f = f
remove_run DoneUntold r f = name_run r None f
