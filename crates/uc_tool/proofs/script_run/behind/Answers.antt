use Rattle.std.proofs.Common.{◌≡◌, ◌+◌, ◌-◌, length, take, drop, ap, ◌∙◌, arith, length-drop, take_all}
use lib.Seq.{paste}
use Rattle.std.proofs.lemmas.List.Edits.{take-paste}
use Rattle.uc_tool.proofs.script_run.behind.Goals as goal

pub returns : goal.returns
returns c =
    let all = c.args.text.items in
    let size = c.args.size in
    let left = c.args.text.len - size in
    let same : left ≡ 0 + left = omega arith in
    let rest : length (drop size all) ≡ left = omega (arith, length-drop size all, c.args.text.ok.0) in
    let kept : c.len.result - size ≡ left = omega (arith, c.len.ensures) in
    c.shrink_to_fit.ensures.items ∙ c.truncate.ensures.items ∙ ap (λ k. take k c.copy_within.new.self.items) kept ∙ ap (take left) c.copy_within.ensures.items
    ∙ ap (λ k. take k (paste all 0 (drop size all) left)) same ∙ take-paste all 0 (drop size all) left (omega arith) (omega (arith, rest))
    ∙ take_all left (drop size all) (omega (arith, rest))
