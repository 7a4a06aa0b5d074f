use Rattle.std.proofs.Common.{ap, ◌∙◌}
use Rattle.std.proofs.lemmas.List.{drop_all}
use Rattle.uc_version_state.specs.Refusals as refusals
use Rattle.uc_version_state.proofs.KnownKeeps.{none_unknown}
use Rattle.uc_version_state.proofs.refusing.first_unknown.Goals as goal

pub returns-clause-none : goal.returns-clause-none
returns-clause-none c =
    none_unknown c.args.terms.now c.args.keeps.now
    (c.loop-keep.invariant ∙ ap (refusals.first_unknown c.args.terms.now) (drop_all c.loop-keep.keep-index c.args.keeps.now c.loop-keep-test.false))
