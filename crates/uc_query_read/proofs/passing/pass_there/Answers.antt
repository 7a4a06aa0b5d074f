use Rattle.std.proofs.Common.{refl}
use Rattle.uc_query_read.proofs.passing.pass_there.Goals as goal

pub returns-clause-cursors : goal.returns-clause-cursors
returns-clause-cursors c = c.pass_from.ensures.cursors c.args.cursors.now c.requires.stand c.requires.of_runs refl refl
