-- How a run ends, after its replies.
use Rattle.std.specs.Prelude.{◌≡◌, ℕ, List, Option, Result, Ok, Err, ◌⊎◌}
use Rattle.std.specs.Io.KnownBytes.{Appends, Keeps}
use Rattle.uc_tool_io.specs.Writing.{AppendsFront}
use Rattle.uc_tool_io.specs.Texts.{out_of_memory, read_fault, input_too_long}
use Rattle.uc_tool_io.specs.declared.done.Done.{Done}
use Rattle.uc_tool_io.specs.declared.done.Done.TheVariants.{Fine, Refused, BadLog, NoMemory, Device}
use Rattle.uc_tool_io.specs.declared.input.InputError.{InputError}
use Rattle.uc_tool_io.specs.declared.input.InputError.TheVariants as unread
use Rattle.uc_tool_io.specs.declared.run_error.RunError.{RunError}
use Rattle.uc_tool_io.specs.declared.run_error.RunError.TheVariants as run_error

-- a flush writes nothing more, and may fail
abbrev pub FlushesAndEnds : Done → Option (List ℕ) → Option (List ℕ) → Done → Type 0
FlushesAndEnds done old new result = ((result ≡ done) ⊎ (result ≡ Device)) × Keeps old new

-- Nothing is written after the replies except that memory ran out. If the writer fails then, the run ends as one whose device
-- failed.
abbrev pub Finishes : Result Done RunError → Option (List ℕ) → Option (List ℕ) → Done → Type 0
Finishes (Ok done) old new result = FlushesAndEnds done old new result
Finishes (Err run_error.Device) old new result = (result ≡ Device) × Keeps old new
Finishes (Err run_error.Memory) old new result =
    ((result ≡ NoMemory) × Appends old new out_of_memory) ⊎ ((result ≡ Device) × AppendsFront old new out_of_memory)

-- an input that couldn't be read is named by one line
abbrev pub FinishesWithoutInput : InputError → Option (List ℕ) → Option (List ℕ) → Done → Type 0
FinishesWithoutInput unread.Memory old new result = Finishes (Err run_error.Memory) old new result
FinishesWithoutInput unread.Fault old new result = (result ≡ Device) × AppendsFront old new read_fault
FinishesWithoutInput unread.TooLong old new result = (result ≡ Device) × AppendsFront old new input_too_long

-- a run that printed all ends so
abbrev pub IsWhole : Done → Type 0
IsWhole Fine = Unit {0}
IsWhole Refused = Unit {0}
IsWhole BadLog = Unit {0}
IsWhole NoMemory = ⊥
IsWhole Device = ⊥
