-- The output of a program: its replies in order, and how it ends; and what it may have written when it stops.
use Rattle.std.specs.Prelude.{◌≡◌, ℕ, ◌<◌, ◌≤◌, List, [], ◌∷◌, ◌++◌, length, take, Option, Result, Ok, Err, ◌⊎◌}
use Rattle.std.specs.List.{flat_map}
use Rattle.std.specs.Io.KnownBytes.{Appends}
use Rattle.uc_tool_io.specs.Writing.{AppendsFront}
use Rattle.uc_tool_io.specs.Texts.{out_of_memory, read_fault, input_too_long}
use Rattle.uc_tool_io.specs.declared.done.Done.{Done}
use Rattle.uc_tool_io.specs.declared.done.Done.TheVariants.{Fine, Refused, BadLog, NoMemory, Device}
use Rattle.uc_tool_io.specs.declared.input.TheConstants.{INPUT_LIMIT}
use Rattle.uc_tool_io.specs.declared.run_error.RunError.{RunError}
use Rattle.uc_tool_io.specs.declared.run_error.RunError.TheVariants as run_error

-- the replies, each of one line or several whole ones, and how it ends
pub record Output : Type 0 where
  pub replies : List (List ℕ)
  pub done : Done

-- a run that failed with one line
abbrev pub refused : List ℕ → Output
refused line = record { replies = line ∷ []; done = Refused }

-- replies one after the other
abbrev pub joined : List (List ℕ) → List ℕ
joined replies = flat_map (λ reply. reply) replies

-- all of them
abbrev pub text_of : Output → List ℕ
text_of output = joined output.replies

-- the first replies, whole, followed by the message that memory ran out
abbrev pub without_memory : Output → ℕ → List ℕ
without_memory output n = joined (take n output.replies) ++ out_of_memory

-- Replies as far as they were written before an error: if memory ran out, some first ones whole; if the writer failed, a prefix of
-- their bytes.
abbrev pub Stops : List (List ℕ) → Option (List ℕ) → Option (List ℕ) → RunError → Type 0
Stops replies old new run_error.Memory = (n : ℕ) × Appends old new (joined (take n replies))
Stops replies old new run_error.Device = AppendsFront old new (joined replies)

-- all of the replies, unless there was an error
abbrev pub Prints : {X : Type 0} → List (List ℕ) → Option (List ℕ) → Option (List ℕ) → Result X RunError → Type 0
Prints replies old new (Ok x) = Appends old new (joined replies)
Prints replies old new (Err e) = Stops replies old new e

-- the bytes that a program begins to write where a device fails
abbrev pub MayPrint : Output → List ℕ → List ℕ → Type 0
MayPrint output input whole =
    (whole ≡ text_of output)
    ⊎ ((n : ℕ) × (whole ≡ without_memory output n))
    ⊎ (whole ≡ read_fault)
    ⊎ ((INPUT_LIMIT < length input) × (whole ≡ input_too_long))

-- all bytes were written, of an input within the limit
abbrev pub PrintsAll : Output → List ℕ → Option (List ℕ) → Option (List ℕ) → Done → Type 0
PrintsAll output input old new done = (output.done ≡ done) × (length input ≤ INPUT_LIMIT) × Appends old new (text_of output)

-- The bytes that were written by a program with this output for its input, by its answer.
abbrev pub HasWritten : Output → List ℕ → Option (List ℕ) → Option (List ℕ) → Done → Type 0
HasWritten output input old new Fine = PrintsAll output input old new Fine
HasWritten output input old new Refused = PrintsAll output input old new Refused
HasWritten output input old new BadLog = PrintsAll output input old new BadLog
HasWritten output input old new NoMemory = (n : ℕ) × Appends old new (without_memory output n)
HasWritten output input old new Device = (whole : List ℕ) × MayPrint output input whole × AppendsFront old new whole
