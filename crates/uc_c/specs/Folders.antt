-- Folders of databases, whose files C keeps.
use Rattle.std.specs.Prelude.{◌≡◌, ◌⊎◌, ℕ, ℤ, List, MatchOption}
use Rattle.uc_folder.specs.declared.listing.Base.{Base}
use Rattle.uc_folder.specs.declared.listing.Listed.{Listed}
use Rattle.uc_folder.specs.declared.listing.Found.{Found}
use Rattle.uc_folder.specs.declared.machine.Machine.{Machine}
use Rattle.uc_folder.specs.declared.state.State.{State}
use Rattle.uc_folder.specs.Listing.{AreFound, IsLacking}
use Rattle.uc_folder.specs.States.{machine_of}
use Rattle.uc_c.specs.declared.status.TheConstants.{OK, LOG_MISSING, NO_FOLDER}

-- the files that opening reads are stored, or the number of a missing log
abbrev pub FindsFiles : ℤ → List Base → List Listed → Found → ℕ → Type 0
FindsFiles status bases logs found missing = ((status ≡ OK) × AreFound bases logs found) ⊎ ((status ≡ LOG_MISSING) × IsLacking bases logs missing)

-- P holds of the machine of some numbers, or the status says that they are none's
abbrev pub IfMachine : ℤ → State → (Machine → Type 0) → Type 0
IfMachine status s P = MatchOption (machine_of s) (status ≡ NO_FOLDER) (λ m. (status ≡ OK) × P m)
