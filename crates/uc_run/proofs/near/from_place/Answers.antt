use Rattle.std.proofs.Common.{◌-◌, length, sym, ◌∙◌}
use Rattle.uc_run.proofs.NearPlace.{behind_ended, order-part}
use Rattle.uc_run.proofs.near.from_place.Goals as goal

pub returns-then-ends_by-clause-covering : goal.returns-then-ends_by-clause-covering
returns-then-ends_by-clause-covering c =
    behind_ended c.args.key.now c.args.fragments.now c.args.place c.index-fragments-place.result c.requires.order c.if-place-gt0.true c.if-place-fragments.true c.index-fragments-place.is (sym c.ends_by.ensures ∙ c.if-ends_by.true)

pub returns-then-ends_by-clause-order : goal.returns-then-ends_by-clause-order
returns-then-ends_by-clause-order c = order-part (length c.args.fragments.now - c.args.place) c.args.place c.args.fragments.now c.requires.order
