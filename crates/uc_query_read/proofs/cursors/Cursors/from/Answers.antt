use Rattle.std.proofs.Common.{ap, ◌∙◌, false, sym, subst}
use Rattle.std.specs.List.{AllByRecursion}
use Rattle.uc_version_state.specs.Versions.{contents_of}
use Rattle.uc_query_read.specs.Walks.{walk_at, runs_of, StandsAt}
use Rattle.uc_query_read.proofs.Standing.{all_start, runs_start}
use Rattle.uc_query_read.proofs.cursors.Cursors.from.Goals as goal

pub invariant_of-result : goal.invariant_of-result
invariant_of-result c =
    subst (AllByRecursion (StandsAt c.args.low.now false)) (sym c.in_ok-from.ensures) (all_start c.args.low.now false (contents_of c.args.runs.now))

pub returns : goal.returns
returns c =
    ap (walk_at c.args.low.now false c.args.high.now) (ap runs_of c.in_ok-from.ensures ∙ runs_start c.args.low.now false (contents_of c.args.runs.now))
