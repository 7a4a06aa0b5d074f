-- The calls of a script, apart from what comes before them.
use Rattle.std.specs.Prelude.{◌≡◌, ℕ, List, [], ◌∷◌, Option, Some, None}
use Rattle.uc_script.specs.Lines.{lines_of}
use Rattle.uc_script.specs.Script.{calls_from}
use Rattle.uc_script.specs.declared.call.Call.{Call}
use Rattle.uc_script.specs.declared.script.Preamble.{Preamble}
use Rattle.uc_script.specs.declared.script.Script.{Script}

-- The calls of the lines, in order, if they follow `open`.
abbrev pub calls_in : List ℕ → List Call
calls_in text = calls_from [] (lines_of text)

-- The first of these calls comes, if there is one, and the others are left.
abbrev pub Comes : List Call → Option Call → List Call → Type 0
Comes calls None others = (calls ≡ []) × (others ≡ [])
Comes calls (Some call) others = calls ≡ call ∷ others

-- The script that begins like this and has these lines after its `open`.
abbrev pub script_with : Preamble → List ℕ → Script
script_with preamble lines = record { ops = preamble.ops; keeps = preamble.keeps; calls = calls_in lines }
