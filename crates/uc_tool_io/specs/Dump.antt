-- The output of a log's dump.
use Rattle.std.specs.Prelude.{ℕ, List, [], ◌∷◌, ◌++◌, map}
use Rattle.uc_batch.specs.declared.ended.Ended.{Ended}
use Rattle.uc_batch.specs.declared.ended.Ended.TheVariants as ended
use Rattle.uc_batch.specs.Log.{log_writes}
use Rattle.uc_batch.specs.WriteLog.{WriteLog}
use Rattle.uc_tool_io.specs.LogLines.{write_line, ended_line}
use Rattle.uc_tool_io.specs.Output.{Output}
use Rattle.uc_tool_io.specs.declared.done.Done.{Done}
use Rattle.uc_tool_io.specs.declared.done.Done.TheVariants.{Fine, BadLog}

abbrev pub done_of : Ended → Done
done_of ended.Clean = Fine
done_of (ended.Torn offset) = Fine
done_of (ended.LogFault fault offset) = BadLog
done_of (ended.BatchFault number fault) = BadLog

-- a line for each write, and one for the ending
abbrev pub shown : WriteLog → Output
shown log = record { replies = map write_line log.list ++ ended_line log.ended ∷ []; done = done_of log.ended }

-- what the dump of a log's bytes prints
abbrev pub dump_of : List ℕ → Output
dump_of input = shown (log_writes input)
