-- The error of an input without a head.
use Rattle.std.specs.Prelude.{◌≡◌, ℕ, List, Err}
use Rattle.uc_script.specs.Head.{head_of}
use Rattle.uc_tool_ask.specs.declared.parted_input.PartError.{PartError}
use Rattle.uc_tool_ask.specs.declared.parted_input.PartError.TheVariants.{Fault, Memory}

-- the fault of the head, with the bytes of the input; that memory ran out says nothing of the input
abbrev pub IsFaultOf : List ℕ → PartError → Type 0
IsFaultOf input (Fault line text) = (head_of input ≡ Err line) × (text.items ≡ input)
IsFaultOf input Memory = Unit {0}
