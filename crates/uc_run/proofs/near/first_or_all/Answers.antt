use Rattle.std.proofs.Common.{sym, ◌∙◌}
use Rattle.uc_run.proofs.NearPlace.{first_alone}
use Rattle.uc_run.proofs.near.first_or_all.Goals as goal

pub returns-else-ends_by-clause-covering : goal.returns-else-ends_by-clause-covering
returns-else-ends_by-clause-covering c =
    first_alone c.args.key.now c.args.fragments.now c.index-fragments-0.result c.requires.order c.index-fragments-0.is (sym c.ends_by.ensures ∙ c.if-ends_by.false)
