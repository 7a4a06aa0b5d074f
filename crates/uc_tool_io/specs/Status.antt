-- The program's exit statuses.
use Rattle.std.specs.Prelude.{ℕ}
use Rattle.uc_tool_io.specs.declared.done.Done.{Done}
use Rattle.uc_tool_io.specs.declared.done.Done.TheVariants.{Fine, Refused, BadLog, NoMemory, Device}

abbrev pub status_of : Done → ℕ
status_of Fine = 0
status_of Refused = 2
status_of BadLog = 3
status_of NoMemory = 4
status_of Device = 5
