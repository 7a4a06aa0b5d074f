use Rattle.std.proofs.Common.{◌≡◌, ℕ, List, ◌-◌, length, subst, ◌∙◌}
use Rattle.std.specs.Prelude.{IfOk}
use Rattle.uc_batch.specs.Log.{log_writes}
use Rattle.uc_batch.specs.Rising.{IsRising}
use Rattle.uc_tool_ask.proofs.Later.{first_rise}
use Rattle.uc_tool_ask.proofs.opened_part.recover_part.Goals as goal

pub returns-clause-rising : goal.returns-clause-rising
returns-clause-rising g c =
    let writes = (log_writes c.args.log).list in
    let same : c.deref-2.result.now ≡ c.args.log = c.deref-2.ensures.value ∙ c.in_ok-bytes.ensures in
    let rising = subst (λ (log : List ℕ). IfOk c.recover_first.result (λ _. IsRising 0 (log_writes log).list)) same c.recover_first.ensures.rising in
    first_rise (length writes - c.args.later) writes c.recover_first.result rising
