use Rattle.std.proofs.Common.{◌≡◌, ℕ, List, ◌++◌}
use Rattle.uc_bytes.specs.declared.write.Write.{Write}
use Rattle.uc_batch.specs.Rising.{IsRising, last_of}
use Rattle.uc_run_entry.specs.Run.{Contents}
use Rattle.uc_version_state.specs.declared.options.Options.{Options}
use Rattle.uc_version_open.specs.Lending.{StandsIn}
use Rattle.uc_version_open.specs.Progress.{progress_of}
use Rattle.uc_version_open.proofs.reading.insert_batch.Given as goal

abbrev pub invariant-loop-write : goal.invariant-loop-write
invariant-loop-write g l = record {
  rising : IsRising l.opener.last l.write-iterator;
  progress : (options : Options) (before : List Write) → l.fn.opener ≡ progress_of options before → l.opener ≡ progress_of options (before ++ l.yielded);
  last : l.opener.last ≡ last_of l.fn.opener.last l.yielded;
  stay : (place : ℕ) (part : List Contents) → StandsIn place part l.fn.opener.held → StandsIn place part l.opener.held;
}
