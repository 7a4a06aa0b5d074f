use Rattle.std.proofs.Common.{◌≡◌, take}
use Rattle.std.specs.List.{flat_map}
use Rattle.uc_tool_opening.specs.AnswerLines.{answer_lines}
use Rattle.uc_tool_opening.proofs.replies.answers_lines.Given as goal

abbrev pub invariant-loop-answer : goal.invariant-loop-answer
invariant-loop-answer l = l.out.items ≡ flat_map answer_lines (take l.answer-index l.answers)
