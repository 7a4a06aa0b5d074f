use Rattle.std.proofs.Common.{ap, ◌∙◌}
use Rattle.uc_live.specs.Compacting.{next_stretch}
use Rattle.uc_live.proofs.Quiet.{Quiet, quiet_none, quiet_on, quiet_same, quiet_compacted, none_picked, none_changed}
use Rattle.uc_live.proofs.live_store.LiveStore.make_slot.Goals as goal

pub loop-self-init : goal.loop-self-init
loop-self-init g c = quiet_none g.O.Operator.meaning c.args.self.now

refused : (g : _) (c : goal.After-from_residual g) → Quiet g.O.Operator.meaning c.args.self.now c.compact_once.new.self
refused g c =
    let m = g.O.Operator.meaning in
    quiet_on m c.args.self.now c.loop-self.self c.compact_once.new.self c.loop-self.invariant
    (quiet_same m c.loop-self.self c.compact_once.new.self c.in_err-compact_once.ensures.err.1)

quietly : (g : _) (c : goal.After-find_slot g) → Quiet g.O.Operator.meaning c.args.self.now c.compact_once.new.self
quietly g c =
    let m = g.O.Operator.meaning in
    let told = c.in_ok-compact_once.ensures in
    quiet_on m c.args.self.now c.loop-self.self c.compact_once.new.self c.loop-self.invariant
    (quiet_compacted m c.loop-self.self c.compact_once.new.self (next_stretch c.loop-self.self) c.in_ok-compact_once.field-0 told.ok told.goes_on)

pub returns-in_err-compact_once-clause-goes_on : goal.returns-in_err-compact_once-clause-goes_on
returns-in_err-compact_once-clause-goes_on g c = (refused g c).0

pub returns-in_err-compact_once-clause-gathered : goal.returns-in_err-compact_once-clause-gathered
returns-in_err-compact_once-clause-gathered g c = (refused g c).1

pub returns-in_err-compact_once-clause-prepared : goal.returns-in_err-compact_once-clause-prepared
returns-in_err-compact_once-clause-prepared g c = (refused g c).2

pub returns-then-not-branch-clause-goes_on : goal.returns-then-not-branch-clause-goes_on
returns-then-not-branch-clause-goes_on g c = (quietly g c).0

pub returns-then-not-branch-clause-gathered : goal.returns-then-not-branch-clause-gathered
returns-then-not-branch-clause-gathered g c = (quietly g c).1

pub returns-then-not-branch-clause-prepared : goal.returns-then-not-branch-clause-prepared
returns-then-not-branch-clause-prepared g c = (quietly g c).2

pub find_slot-requires : goal.find_slot-requires
find_slot-requires g c =
    let m = g.O.Operator.meaning in
    let old = c.loop-self.self in
    let new = c.compact_once.new.self in
    let told = c.in_ok-compact_once.ensures in
    let stays = c.if-not-branch.true in
    let none = none_picked m old new (next_stretch old) c.in_ok-compact_once.field-0 stays told.ok in
    let same = none_changed m old new (next_stretch old) c.in_ok-compact_once.field-0 stays told.ok in
    ap next_stretch same ∙ none

pub loop-self-smaller : goal.loop-self-smaller
loop-self-smaller g c = c.in_ok-compact_once.ensures.fewer c.if-not-branch.false

pub loop-self-preserved : goal.loop-self-preserved
loop-self-preserved g c =
    let m = g.O.Operator.meaning in
    let told = c.in_ok-compact_once.ensures in
    quiet_on m c.args.self.now c.loop-self.self c.compact_once.new.self c.loop-self.invariant
    (quiet_compacted m c.loop-self.self c.compact_once.new.self (next_stretch c.loop-self.self) c.in_ok-compact_once.field-0 told.ok told.goes_on)

pub returns-clause-goes_on : goal.returns-clause-goes_on
returns-clause-goes_on g c = c.loop-self.invariant.0

pub returns-clause-gathered : goal.returns-clause-gathered
returns-clause-gathered g c = c.loop-self.invariant.1

pub returns-clause-prepared : goal.returns-clause-prepared
returns-clause-prepared g c = c.loop-self.invariant.2
