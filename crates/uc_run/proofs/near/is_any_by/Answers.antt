use Rattle.std.proofs.Common.{ap, ◌∙◌}
use Rattle.std.specs.Prelude.{is_some}
use Rattle.uc_run.proofs.Hiding.{some_seen}
use Rattle.uc_run.proofs.near.is_any_by.Goals as goal

pub returns : goal.returns
returns c = c.is_some.ensures ∙ ap is_some c.newest_at_or_below.ensures ∙ some_seen c.args.at c.args.seqs.now
