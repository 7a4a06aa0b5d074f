-- Directories whose checkpoints are lists of run files.
use Rattle.std.specs.Prelude.{◌≡◌, ◌⊎◌, ℕ, ℤ, List, Option, Some, None, Ok, Err, MatchOption}
use Rattle.uc_folder.specs.declared.machine.Machine.{Machine}
use Rattle.uc_folder.specs.declared.state.State.{State}
use Rattle.uc_folder.specs.States.{machine_of}
use Rattle.uc_run_folder.specs.declared.listing.RunFault.TheVariants.{Missing, Spent}
use Rattle.uc_run_folder.specs.declared.run_folder.RunFolder.{RunFolder}
use Rattle.uc_run_folder.specs.declared.run_state.RunState.{RunState}
use Rattle.uc_run_folder.specs.Listing.{AreFound, greatest_in}
use Rattle.uc_run_folder.specs.RunStates.{run_folder_of}
use Rattle.uc_c.specs.declared.status.TheConstants.{OK, NO_FOLDER}

-- the next number is stored, or a run that is missing, or neither, if no number is left
abbrev pub FindsRuns : List ℕ → List ℕ → ℕ → ℕ → Type 0
FindsRuns named listed next missing =
    (AreFound named listed (Ok next) × (missing ≡ 0)) ⊎
    ((AreFound named listed (Err (Missing missing)) × (next ≡ 0)) ⊎ (AreFound named listed (Err (Spent (greatest_in listed))) × (next ≡ 0) × (missing ≡ 0)))

-- the machine of some numbers, if there is one
abbrev pub with_runs : RunState → Option Machine → Option RunFolder
with_runs r (Some m) = run_folder_of r m
with_runs r None = None

abbrev pub machine_with : State → RunState → Option RunFolder
machine_with s r = with_runs r (machine_of s)

-- P holds of the machine of some numbers, or the status says that they are none's
abbrev pub IfRunFolder : ℤ → State → RunState → (RunFolder → Type 0) → Type 0
IfRunFolder status s r P = MatchOption (machine_with s r) (status ≡ NO_FOLDER) (λ m. (status ≡ OK) × P m)
