use Rattle.std.proofs.Common.{◌≡◌, None, ◌∙◌, sym}
use Rattle.uc_batch.specs.Log.{log_writes}
use Rattle.uc_batch.specs.Rising.{IsRising}
use Rattle.uc_version_state.specs.Openings.{Opening, opened}
use Rattle.uc_version_open.specs.Refusal.{opening_refusal}
use Rattle.uc_store.proofs.opened_shared.open_shared.Goals as goal

pub returns-in-Ok-clause-legal : goal.returns-in-Ok-clause-legal
returns-in-Ok-clause-legal g c =
    let o : Opening = record { writes = (log_writes c.args.log.now).list; keeps = c.args.keeps.now; options = c.args.options } in
    let rising : IsRising 0 o.writes = c.in_ok-opener.ensures.rising in
    let found : (c.in_ok-version.version ≡ opened o) × (opening_refusal o ≡ None) =
    c.in_ok-version.ensures.ok o.options o.writes rising c.in_ok-opener.ensures.opener in
    (record { opens = (c.no_refusal_is_leave_to_open.ensures o rising).0 found.1; follow = tt }, sym (c.in-Ok.ensures.version ∙ found.0))
