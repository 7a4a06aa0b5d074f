use Rattle.std.proofs.Common.{sym, ◌∙◌}
use Rattle.uc_live.proofs.Judged.{rows_decide}
use Rattle.uc_live.proofs.judging.are_same_rows.Goals as goal

pub returns : goal.returns
returns c =
    let decide = rows_decide c.args.rows.now c.args.others.now in
    (λ same. decide.0 (sym c.eq.ensures ∙ same), λ e. c.eq.ensures ∙ decide.1 e)
