use Rattle.std.proofs.Common.{◌≡◌, ◌++◌, map, take}
use Rattle.std.specs.List.{flat_map}
use Rattle.uc_tool_io.specs.Line.{field}
use Rattle.uc_tool_io.proofs.line.push_fields_line.Given as goal

abbrev pub invariant-loop-words : goal.invariant-loop-words
invariant-loop-words l = l.out.items ≡ l.fn.out.items ++ flat_map field (map (λ f. (f.0.now, f.1)) (take l.words-index l.fields))
