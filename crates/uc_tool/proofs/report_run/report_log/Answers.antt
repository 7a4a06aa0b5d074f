use Rattle.std.proofs.Common.{rules, ◌≡◌, Option, sym, ◌∙◌, subst}
use Rattle.std.specs.Prelude.{IfSome}
use Rattle.uc_tool.specs.Report.{report_of, cause_of}
use Rattle.uc_tool.proofs.Reports.{report_whole}
use Rattle.uc_tool_opening.specs.Reasons.{IsReason, TellsOpening}
use Rattle.uc_tool_opening.specs.declared.reason.Reason.{Reason}
use Rattle.uc_tool_opening.proofs.Reasons.{told_after, opening_after, reason_alone, reason_in}
use Rattle.uc_tool.proofs.report_run.report_log.Goals as goal

pub returns-clause-written : goal.returns-clause-written
returns-clause-written g c =
    let m = g.O.Operator.meaning in
    let o = c.args.options.now in
    c.run_over_input-done.ensures.written (report_of m o) (report_whole m o) (λ input before after outcome told short call. search rules)

pub returns-clause-told : goal.returns-clause-told
returns-clause-told g c =
    let cause = cause_of c.args.options.now in
    let remaining = g.R.Read.remaining c.args.reader.now in
    let told = c.run_over_input-done.result.1 in
    let is : reason_in (λ (reason : Option Reason). reason) told ≡ c.flatten.result = reason_alone told ∙ sym c.flatten.ensures in
    subst (λ (reason : Option Reason). IfSome remaining (λ input. IsReason (cause input) reason)) is
    (told_after _ _ _ g.W.Write.contents remaining _ _ c.run_over_input-done.result.0 cause (λ (reason : Option Reason). reason) told c.run_over_input-done.ensures.told (λ input before after outcome reason short call. (search rules, search rules)))

pub returns-clause-opening : goal.returns-clause-opening
returns-clause-opening g c refused =
    let cause = cause_of c.args.options.now in
    let remaining = g.R.Read.remaining c.args.reader.now in
    let told = c.run_over_input-done.result.1 in
    let is : reason_in (λ (reason : Option Reason). reason) told ≡ c.flatten.result = reason_alone told ∙ sym c.flatten.ensures in
    subst (λ (reason : Option Reason). IfSome remaining (λ input. TellsOpening (cause input) reason)) is
    (opening_after _ _ _ g.W.Write.contents remaining _ _ c.run_over_input-done.result.0 cause (λ (reason : Option Reason). reason) told c.run_over_input-done.ensures.told c.run_over_input-done.ensures.untold (λ input before after outcome reason short call. (search rules, search rules)) refused)
