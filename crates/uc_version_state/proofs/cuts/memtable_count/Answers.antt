use Rattle.std.proofs.Common.{◌≡◌, ◌+◌, ◌-◌, ◌^◌, min, rules}
use Rattle.uc_run.specs.Size.{write_size}
use Rattle.uc_version_state.proofs.Counting.{on_full, on_room}
use Rattle.uc_version_state.proofs.cuts.memtable_count.Goals as goal
use Rattle.uc_version_state.proofs.cuts.memtable_count.Goals.{then-is_empty, else-is_empty}

pub loop-write-preserved : goal.loop-write-preserved
loop-write-preserved c =
    let l = c.loop-write in
    let write = c.write-item.result in
    let sum : c.saturating_add-size.result ≡ min (l.size + min (write_size write) (2 ^ 64 - 1)) (2 ^ 64 - 1) = search rules in
    elim c.if-is_empty.branch [
      | then-is_empty w ↦ on_full c.args.limit c.args.writes.now l.write-index l.full l.size l.is_empty write l.invariant c.loop-write-test.true c.write-item.is c.if-is_empty.full c.if-is_empty.size c.saturating_add-size.result sum w.if-is_empty.true w.full-is w.size-is
      | else-is_empty w ↦ on_room c.args.limit c.args.writes.now l.write-index l.full l.size l.is_empty write l.invariant c.loop-write-test.true c.write-item.is c.if-is_empty.full c.if-is_empty.size c.saturating_add-size.result sum w.if-is_empty.false w.full-is w.size-is
    ]
