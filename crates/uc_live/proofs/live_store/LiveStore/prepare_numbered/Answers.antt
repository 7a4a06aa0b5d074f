use Rattle.std.proofs.Common.{◌≡◌, Err, sym, ap, ◌∙◌, subst}
use Rattle.uc_batch.specs.Batch.{batch_of}
use Rattle.uc_batch.specs.Rising.{IsRising}
use Rattle.uc_batch.proofs.Rises.{rising-batch}
use Rattle.uc_live.specs.Lives.{last}
use Rattle.uc_live.proofs.Going.{goes_nowhere}
use Rattle.uc_live.proofs.live_store.LiveStore.prepare_numbered.Goals as goal

pub returns-in-Err-clause-err : goal.returns-in-Err-clause-err
returns-in-Err-clause-err g c =
    let now = c.args.self.now in
    let batch = c.args.batch.now in
    let read : batch_of (last now) batch ≡ Err c.in-Err.fault = ap (λ n. batch_of n batch) (sym c.last.ensures) ∙ c.in-Err.ensures in
    (c.unread.ensures (batch_of (last now) batch) now read, (goes_nowhere g.O.Operator.meaning now, c.requires.none))

pub prepare_writes-requires-clause-rising : goal.prepare_writes-requires-clause-rising
prepare_writes-requires-clause-rising g c =
    subst (λ n. IsRising n c.in-Ok.writes) c.last.ensures (rising-batch c.last.result c.args.batch.now c.in-Ok.writes c.in-Ok.ensures)
