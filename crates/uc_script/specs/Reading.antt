-- Reading line by line, and what a reader returns. `Script.script_of` defines the outcome.
use Rattle.std.specs.Prelude.{◌≡◌, ℕ, ◌+◌, ◌-◌, ◌==◌, Bool, true, false, List, [], ◌∷◌, ◌++◌, length, drop, Option, Some, None, Result, Ok, Err, if◌then◌else◌}
use Rattle.uc_script.specs.Script.{setup_line, call_line, call_after, ops_after}
use Rattle.uc_script.specs.declared.error.ScriptError.{ScriptError}
use Rattle.uc_script.specs.declared.error.ScriptError.TheVariants as errors
use Rattle.uc_script.specs.declared.call.Call.{Call}
use Rattle.uc_script.specs.declared.setup_line.SetupLine.TheVariants as setup
use Rattle.uc_script.specs.declared.call_line.CallLine.{CallLine}
use Rattle.uc_script.specs.declared.call_line.CallLine.TheVariants as asking
use Rattle.uc_script.specs.declared.script_text.Opened.{Opened}
use Rattle.uc_script.specs.Lines.{lines_of}
use Rattle.uc_bytes.specs.declared.op.Op.{Op}

-- An error is the fault that reading finds, unless memory ran out.
abbrev pub Fails : {Y : Type 0} → ScriptError → Result Y ℕ → Type 0
Fails errors.Memory read = Unit {0}
Fails (errors.Fault line) read = read ≡ Err line

-- A function's result, seen by view, is the result of reading, unless allocation failed.
abbrev pub Gives : {X Y : Type 0} → (X → Y) → Result X ScriptError → Result Y ℕ → Type 0
Gives view (Ok x) read = read ≡ Ok (view x)
Gives view (Err e) read = Fails e read

-- A suffix of the input.
unfoldable pub IsRest : List ℕ → List ℕ → Type 0
IsRest text rest = rest ≡ drop (length text - length rest) text

-- The result of reading up to the first `open`: the number of the line after it, and the lines from there on.
pub record Setup : Type 0 where
  pub ops : List Op
  pub keeps : List ℕ
  pub number : ℕ
  pub lines : List (List ℕ)

-- Lines from the one of this number on, after these changes and keeps.
abbrev pub setup_after : List Op → List ℕ → ℕ → List (List ℕ) → Result Setup ℕ
setup_after ops keeps number [] = Err number
setup_after ops keeps number (line ∷ lines) = elim (setup_line line) [
  | None ↦ Err number
  | Some said ↦ elim said [
    | setup.Skipped ↦ setup_after ops keeps (number + 1) lines
    | setup.Change op ↦ setup_after (ops ++ op ∷ []) keeps (number + 1) lines
    | setup.Keep keep ↦ setup_after ops (keeps ++ keep ∷ []) (number + 1) lines
    | setup.Open ↦ Ok (record { ops = ops; keeps = keeps; number = number + 1; lines = lines })
  ]
]

-- A list, and one item more if there is one.
abbrev pub snoc_option : {A : Type 0} → List A → Option A → List A
snoc_option items None = items
snoc_option items (Some item) = items ++ item ∷ []

-- Lines from the one of this number on, after these calls, and these changes that no `feed` took yet.
abbrev pub calls_after : List Call → List Op → ℕ → List (List ℕ) → Result (List Call) ℕ
calls_after calls ops number [] = if length ops == 0 then Ok calls else Err number
calls_after calls ops number (line ∷ lines) = elim (call_line line) [
  | None ↦ Err number
  | Some said ↦ calls_after (snoc_option calls (call_after ops said)) (ops_after ops said) (number + 1) lines
]

-- Whether changes are left after a line that no `feed` took yet, by whether some were before it.
abbrev pub unfed_after : Bool → CallLine → Bool
unfed_after unfed asking.Skipped = unfed
unfed_after unfed (asking.Change op) = true
unfed_after unfed asking.Feed = false
unfed_after unfed (asking.Ask call) = unfed

-- Lines from the one of this number on, of which no call and no change is held, by whether changes before them are left.
abbrev pub judged_after : Bool → ℕ → List (List ℕ) → Result (Unit {0}) ℕ
judged_after unfed number [] = if unfed then Err number else Ok tt
judged_after unfed number (line ∷ lines) = elim (call_line line) [
  | None ↦ Err number
  | Some said ↦ judged_after (unfed_after unfed said) (number + 1) lines
]

-- The result of reading, without its place in memory.
abbrev pub seen : Opened → Setup
seen o = record { ops = o.ops.items; keeps = o.keeps.items; number = o.number; lines = lines_of o.rest.now }
