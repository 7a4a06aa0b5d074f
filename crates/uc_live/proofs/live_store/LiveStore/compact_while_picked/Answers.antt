use Rattle.uc_live.specs.Compacting.{next_stretch}
use Rattle.uc_live.proofs.Quiet.{Quiet, quiet_none, quiet_on, quiet_same, quiet_compacted}
use Rattle.uc_live.proofs.live_store.LiveStore.compact_while_picked.Goals as goal

pub loop-init : goal.loop-init
loop-init g c = quiet_none g.O.Operator.meaning c.args.self.now

pub loop-smaller : goal.loop-smaller
loop-smaller g c = c.in-Ok-true.ensures.fewer c.in-Ok-true.field-0-test

pub loop-preserved : goal.loop-preserved
loop-preserved g c =
    let m = g.O.Operator.meaning in
    let told = c.in-Ok-true.ensures in
    quiet_on m c.args.self.now c.loop.self c.compact_once.new.self c.loop.invariant
    (quiet_compacted m c.loop.self c.compact_once.new.self (next_stretch c.loop.self) c.in-Ok-true.field-0 told.ok told.goes_on)

-- nothing was picked
quietly : (g : _) (c : goal.In_default g) → Quiet g.O.Operator.meaning c.args.self.now c.compact_once.new.self
quietly g c =
    let m = g.O.Operator.meaning in
    let told = c.in_default.ensures in
    quiet_on m c.args.self.now c.loop.self c.compact_once.new.self c.loop.invariant
    (quiet_compacted m c.loop.self c.compact_once.new.self (next_stretch c.loop.self) _ told.ok told.goes_on)

-- it was refused
refused : (g : _) (c : goal.In_default-2 g) → Quiet g.O.Operator.meaning c.args.self.now c.compact_once.new.self
refused g c =
    let m = g.O.Operator.meaning in
    quiet_on m c.args.self.now c.loop.self c.compact_once.new.self c.loop.invariant
    (quiet_same m c.loop.self c.compact_once.new.self c.in_default.ensures.err.1)

pub returns-in_default-clause-goes_on : goal.returns-in_default-clause-goes_on
returns-in_default-clause-goes_on g c = (quietly g c).0

pub returns-in_default-clause-gathered : goal.returns-in_default-clause-gathered
returns-in_default-clause-gathered g c = (quietly g c).1

pub returns-in_default-clause-prepared : goal.returns-in_default-clause-prepared
returns-in_default-clause-prepared g c = (quietly g c).2

pub returns-in_default-2-clause-goes_on : goal.returns-in_default-2-clause-goes_on
returns-in_default-2-clause-goes_on g c = (refused g c).0

pub returns-in_default-2-clause-gathered : goal.returns-in_default-2-clause-gathered
returns-in_default-2-clause-gathered g c = (refused g c).1

pub returns-in_default-2-clause-prepared : goal.returns-in_default-2-clause-prepared
returns-in_default-2-clause-prepared g c = (refused g c).2
