-- The output if no store is opened.
use Rattle.std.specs.Prelude.{ℕ, List, [], ◌∷◌, codes}
use Rattle.uc_batch.specs.declared.ended.Ended.{Ended}
use Rattle.uc_version_open.specs.declared.open_error.OpenError.{OpenError}
use Rattle.uc_version_open.specs.declared.open_error.OpenError.TheVariants as opening
use Rattle.uc_tool_io.specs.Line.{numbered_line}
use Rattle.uc_tool_io.specs.LogLines.{ended_line}
use Rattle.uc_tool_io.specs.Output.{Output}
use Rattle.uc_tool_io.specs.declared.done.Done.TheVariants.{BadLog}

-- why a store isn't opened; one that isn't shared never says the first, and no definition the last
abbrev pub opening_refusal_line : OpenError → List ℕ
opening_refusal_line opening.BadCount = codes "refused bad count\n"
opening_refusal_line opening.BadOption = codes "refused bad option\n"
opening_refusal_line (opening.SnapshotAhead keep) = numbered_line (codes "refused snapshot ahead ") keep
opening_refusal_line opening.TooManyRuns = codes "refused too many runs\n"
opening_refusal_line opening.Memory = codes "out of memory\n"

-- the output for a log that was rejected
abbrev pub bad_log : Ended → Output
bad_log ended = record { replies = ended_line ended ∷ []; done = BadLog }
