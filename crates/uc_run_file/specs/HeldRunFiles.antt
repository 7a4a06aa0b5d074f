-- How a run's file is held that is read piece by piece.
use Rattle.std.specs.Prelude.{ℕ, List, Option}
use Rattle.uc_run_entry.specs.Run.{Contents}
use Rattle.uc_run_file.specs.declared.run_file.RunFile.TheInside.{Inside}

-- The bytes that came, and the run once it was read.
pub record ReadFile : Type 0 where
  pub bytes : List ℕ
  pub run : Option Contents

abbrev pub read_file : Inside → ReadFile
read_file i = record { bytes = i.bytes.items; run = i.run }
