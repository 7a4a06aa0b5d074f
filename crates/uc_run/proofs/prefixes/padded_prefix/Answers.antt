use Rattle.std.proofs.Common.{rules}
use Rattle.uc_run.specs.Prefixes.{prefix_of}
use Rattle.uc_run.proofs.prefixes.padded_prefix.Goals as goal

pub returns : goal.returns
unfolding prefix_of
returns c = search rules
