use Rattle.std.proofs.Common.{rules, ◌≡◌, Option, Some, None, refl, sym, ◌∙◌, ap, subst}
use Rattle.std.specs.Prelude.{IfSome}
use Rattle.std.specs.Option.{unwrap_or}
use Rattle.uc_tool_ask.specs.Ask.{ask_of, cause_of}
use Rattle.uc_tool_ask.specs.declared.ask_run.Told.{Told}
use Rattle.uc_tool_ask.proofs.Whole.{ask_whole}
use Rattle.uc_tool_opening.specs.Reasons.{IsReason, TellsOpening}
use Rattle.uc_tool_opening.specs.declared.reason.Reason.{Reason}
use Rattle.uc_tool_opening.proofs.Reasons.{told_after, opening_after, reason_in}
use Rattle.uc_tool_ask.proofs.ask_run.ask_through.Goals as goal

-- the reason in what is told
abbrev reason_of : Told → Option Reason
reason_of told = told.reason

-- if nothing is told, there is none
reason_is : (nothing : Told) → nothing.reason ≡ None → (told : Option Told) → reason_in reason_of told ≡ (unwrap_or told nothing).reason
reason_is nothing none None = sym none
reason_is nothing none (Some told) = refl

pub returns-clause-written : goal.returns-clause-written
returns-clause-written g c =
    let m = g.O.Operator.meaning in
    let o = c.args.options.now in
    c.run_over_input-done.ensures.written (ask_of m o c.args.later) (ask_whole m o c.args.later) (λ input before after outcome told short call. search rules)

pub returns-clause-told : goal.returns-clause-told
returns-clause-told g c =
    let cause = cause_of c.args.options.now c.args.later in
    let remaining = g.R.Read.remaining c.args.reader.now in
    let told = c.run_over_input-done.result.1 in
    let is : reason_in reason_of told ≡ c.unwrap_or-reason.result.reason = reason_is c.nothing.result (ap reason_of c.nothing.ensures) told ∙ sym (ap reason_of c.unwrap_or-reason.ensures) in
    subst (λ (reason : Option Reason). IfSome remaining (λ input. IsReason (cause input) reason)) is
    (told_after _ _ _ g.W.Write.contents remaining _ _ c.run_over_input-done.result.0 cause reason_of told c.run_over_input-done.ensures.told (λ input before after outcome told short call. (search rules, search rules)))

pub returns-clause-opening : goal.returns-clause-opening
returns-clause-opening g c refused =
    let cause = cause_of c.args.options.now c.args.later in
    let remaining = g.R.Read.remaining c.args.reader.now in
    let told = c.run_over_input-done.result.1 in
    let is : reason_in reason_of told ≡ c.unwrap_or-reason.result.reason = reason_is c.nothing.result (ap reason_of c.nothing.ensures) told ∙ sym (ap reason_of c.unwrap_or-reason.ensures) in
    subst (λ (reason : Option Reason). IfSome remaining (λ input. TellsOpening (cause input) reason)) is
    (opening_after _ _ _ g.W.Write.contents remaining _ _ c.run_over_input-done.result.0 cause reason_of told c.run_over_input-done.ensures.told c.run_over_input-done.ensures.untold (λ input before after outcome told short call. (search rules, search rules)) refused)
