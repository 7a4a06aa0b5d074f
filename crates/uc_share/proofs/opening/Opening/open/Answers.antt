use Rattle.std.proofs.Common.{◌∙◌, sym, subst}
use Rattle.uc_batch.specs.Rising.{IsRising}
use Rattle.uc_version_state.specs.Openings.{Opening}
use Rattle.uc_share.proofs.opening.Opening.open.Goals as goal

pub returns-in-Ok-of-clause-legal : goal.returns-in-Ok-of-clause-legal
returns-in-Ok-of-clause-legal g c =
    let o : Opening = record { writes = c.args.writes.now.list; keeps = c.args.keeps.now; options = c.args.options } in
    let rising : IsRising 0 o.writes = subst (IsRising 0) c.list.ensures.list c.list.ensures.rising in
    (record { opens = (c.no_refusal_is_leave_to_open.ensures o rising).0 c.in-Ok.ensures.ok.1; follow = tt }, sym (c.in-Ok-of.ensures.version ∙ c.in-Ok.ensures.ok.0))
