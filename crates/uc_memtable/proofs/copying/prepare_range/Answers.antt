use Rattle.std.proofs.Common.{sym}
use Rattle.uc_memtable.proofs.Copied.{comes_next, one_copied}
use Rattle.uc_memtable.proofs.copying.prepare_range.Goals as goal

pub prepare-requires-clause-above : goal.prepare-requires-clause-above
prepare-requires-clause-above c =
    (comes_next c.args.active.now c.loop-place.active c.args.writes.now c.args.first c.loop-place.place c.args.end c.loop-place.invariant
    c.loop-place.auto.place c.loop-place-test.true c.requires.within c.in-Some.write (sym c.in-Some.ensures)).0

pub prepare-requires-clause-below : goal.prepare-requires-clause-below
prepare-requires-clause-below c =
    (comes_next c.args.active.now c.loop-place.active c.args.writes.now c.args.first c.loop-place.place c.args.end c.loop-place.invariant
    c.loop-place.auto.place c.loop-place-test.true c.requires.within c.in-Some.write (sym c.in-Some.ensures)).1

pub loop-place-preserved : goal.loop-place-preserved
loop-place-preserved c =
    one_copied c.args.active.now c.loop-place.active c.args.writes.now c.args.first c.loop-place.place c.args.end c.loop-place.invariant
    c.loop-place.auto.place c.loop-place-test.true c.requires.within c.in-Some.write (sym c.in-Some.ensures) c.prepare.new.self c.in_ok-prepare.ensures.ok
