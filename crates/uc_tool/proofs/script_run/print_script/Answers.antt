use Rattle.std.proofs.Common.{◌≡◌, ℕ, ◌+◌, length, sym, ap, ◌∙◌, subst, arith}
use Rattle.uc_script.specs.Calls.{calls_in, script_with}
use Rattle.uc_version_state.specs.Versions.{Stored}
use Rattle.uc_tool_io.specs.Output.{Output, Prints}
use Rattle.uc_tool.specs.Play.{FitLogs, opening_of}
use Rattle.uc_tool.proofs.ReadAnswers.{last_is_count}
use Rattle.uc_tool.proofs.Opened.{opens}
use Rattle.uc_tool.proofs.script_run.print_script.Goals as goal

pub returns-in-Ok-clause-printed : goal.returns-in-Ok-clause-printed
returns-in-Ok-clause-printed g c =
    let contents = g.W.Write.contents in
    let script = script_with c.args.preamble c.args.lines.now in
    let is = opens g.O.Operator.meaning (opening_of c.args.options.now script) c.in-Ok.version script.calls c.in-Ok.ensures.ok.0 c.in-Ok.ensures.ok.1 in
    subst (λ (out : Output). Prints out.replies (contents c.args.writer.now) (contents c.print_opened-outcome.new.writer) c.print_opened-outcome.result) is c.print_opened-outcome.ensures.printed

pub print_opened-outcome-requires-clause-feeds : goal.print_opened-outcome-requires-clause-feeds
print_opened-outcome-requires-clause-feeds g c κs within =
    let ops = c.args.preamble.ops in
    let last : c.in-Ok.version.last ≡ length ops = ap (λ (v : Stored). v.last) c.in-Ok.ensures.ok.0 ∙ last_is_count 0 ops ∙ omega arith in
    subst (λ (n : ℕ). FitLogs (n + 1) (calls_in c.args.lines.now)) (sym last) c.requires.feeds
