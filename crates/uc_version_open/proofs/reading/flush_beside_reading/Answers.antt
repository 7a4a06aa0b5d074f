use Rattle.std.proofs.Common.{◌≤◌}
use Rattle.std.proofs.lemmas.Result.{IfOk-at_ok}
use Rattle.uc_version_open.specs.Reading.{ReadsOn, unread}
use Rattle.uc_version_open.specs.declared.reading.Reading.{Reading}
use Rattle.uc_version_open.proofs.reading.flush_beside_reading.Goals as goal

pub returns-clause-on : goal.returns-clause-on
returns-clause-on g c =
    let args = c.args in
    (IfOk-at_ok (λ (r : Reading). ReadsOn args.batches args.opener r.batches r.opener × (unread r.ended r.batches.left ≤ args.batches.left))
    c.in_ok-reading.was c.flush_beside-runs.ensures.work).0

pub returns-clause-fewer : goal.returns-clause-fewer
returns-clause-fewer g c =
    let args = c.args in
    (IfOk-at_ok (λ (r : Reading). ReadsOn args.batches args.opener r.batches r.opener × (unread r.ended r.batches.left ≤ args.batches.left))
    c.in_ok-reading.was c.flush_beside-runs.ensures.work).1
