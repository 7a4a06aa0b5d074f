use Rattle.std.proofs.Common.{◌≡◌, ◌<◌, List, ap, sym, subst, ◌∙◌}
use Rattle.std.specs.Prelude.{◌^◌, IfOk}
use Rattle.uc_bytes.specs.declared.write.Write.{Write}
use Rattle.uc_run_entry.specs.Run.{Contents}
use Rattle.uc_batch.specs.Rising.{last_of}
use Rattle.uc_version_open.specs.Steps.{with_write}
use Rattle.uc_version_open.proofs.Feeding.{above, below, one_fed, all_fed}
use Rattle.uc_version_open.proofs.flushes.flush_writes.Goals as goal

pub insert-requires-clause-above : goal.insert-requires-clause-above
insert-requires-clause-above g c =
    let l = c.loop-write in
    subst (λ (u : Write). last_of 0 l.memtables.newest < u.seq) (sym c.of.ensures)
    (above c.args.limit c.args.writes.now c.requires.rising l.write-index c.write-item.result l.memtables l.invariant c.loop-write-test.true c.write-item.is)

pub insert-requires-clause-below : goal.insert-requires-clause-below
insert-requires-clause-below g c =
    let l = c.loop-write in
    subst (λ (u : Write). u.seq < 2 ^ 56) (sym c.of.ensures)
    (below c.args.limit c.args.writes.now c.requires.rising l.write-index c.write-item.result l.memtables l.invariant c.loop-write-test.true c.write-item.is)

pub loop-write-preserved : goal.loop-write-preserved
loop-write-preserved g c =
    let l = c.loop-write in
    c.in_ok-insert.ensures.ok
    ∙ ap (λ (u : Write). with_write c.args.limit l.memtables u) c.of.ensures
    ∙ one_fed c.args.limit c.args.writes.now c.requires.rising l.write-index c.write-item.result l.memtables l.invariant c.loop-write-test.true c.write-item.is c.requires.limit

pub returns : goal.returns
returns g c =
    let l = c.loop-write in
    subst (λ (made : List Contents). IfOk c.into_runs.result (λ runs. runs.items ≡ made))
    (all_fed c.args.limit c.args.writes.now l.write-index l.memtables l.invariant c.loop-write-test.false) c.into_runs.ensures
