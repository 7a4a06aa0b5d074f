use Rattle.std.proofs.Common.{List, ℕ, ◌∙◌, subst}
use Rattle.uc_tool_io.specs.Output.{Prints, refused}
use Rattle.uc_tool_opening.proofs.refused_runs.print_fault.Goals as goal

pub returns-clause-printed : goal.returns-clause-printed
returns-clause-printed g c =
    let contents = g.W.Write.contents in
    subst (λ (line : List ℕ). Prints (refused line).replies (contents c.args.writer.now) (contents c.print_refusal.new.writer) c.print_refusal.result) (c.deref.ensures.value ∙ c.in_ok-line.ensures) c.print_refusal.ensures.printed
