use Rattle.std.proofs.Common.{sym, ◌∙◌}
use Rattle.uc_compact.proofs.FirstAbove.{before_place}
use Rattle.uc_compact.proofs.front.start_at.Goals as goal

pub returns-then-ends_by-clause-before : goal.returns-then-ends_by-clause-before
returns-then-ends_by-clause-before c =
    before_place c.args.key.now c.args.fragments.now c.requires c.args.from c.index-fragments-from.result c.if-from-gt0.true c.if-from-fragments.true c.index-fragments-from.is (sym c.ends_by.ensures ∙ c.if-ends_by.true)
