use Rattle.std.proofs.Common.{◌≡◌, ◌++◌, map, take}
use Rattle.std.specs.List.{flat_map}
use Rattle.std.specs.Fmt.{decimal}
use Rattle.uc_tool_opening.specs.ReportLines.{field_text}
use Rattle.uc_tool_opening.proofs.reports.push_counted_line.Given as goal

abbrev pub invariant-loop-name : goal.invariant-loop-name
invariant-loop-name l =
    l.out.items ≡ l.fn.out.items ++ l.words ++ decimal l.number ++ flat_map field_text (map (λ f. (f.0.now, f.1)) (take l.name-index l.fields))
