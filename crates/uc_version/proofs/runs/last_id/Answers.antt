use Rattle.std.proofs.Common.{◌∙◌}
use Rattle.uc_version.proofs.Oldest.{last_is}
use Rattle.uc_version.proofs.runs.last_id.Goals as goal

pub returns-in-Some : goal.returns-in-Some
returns-in-Some c = c.id.ensures ∙ last_is c.args.runs.now c.in-Some.oldest.now c.in-Some.ensures.item.3.0 c.in-Some.ensures.item.3.1
