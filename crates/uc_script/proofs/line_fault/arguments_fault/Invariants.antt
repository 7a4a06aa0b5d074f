use Rattle.std.proofs.Common.{◌≡◌, ◌+◌, drop}
use Rattle.std.specs.Option.{option_copied}
use Rattle.uc_script.specs.Faults.{arguments_fault, fields_after}
use Rattle.uc_script.specs.Words.{kinds}
use Rattle.uc_script.proofs.line_fault.arguments_fault.Given as goal

abbrev pub invariant-loop-place : goal.invariant-loop-place
invariant-loop-place l =
    arguments_fault l.word (l.place + 2) (drop l.place (kinds l.word)) (fields_after (option_copied l.rest)) ≡ arguments_fault l.word 2 (kinds l.word) (fields_after (option_copied l.fn.text))
