use Rattle.std.proofs.Common.{◌≡◌, ◌++◌}
use Rattle.std.specs.List.{flat_map}
use Rattle.uc_tool_opening.specs.AnswerLines.{row_line, rows_lines}
use Rattle.uc_tool_opening.proofs.answers.push_rows.Given as goal

-- the lines so far, and those of the rows that are ahead
abbrev pub invariant-loop-key : goal.invariant-loop-key
invariant-loop-key l = l.out.items ++ flat_map row_line l.key-iterator ≡ l.fn.out.items ++ rows_lines l.rows
