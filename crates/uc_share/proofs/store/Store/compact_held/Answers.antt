use Rattle.std.proofs.Common.{subst}
use Rattle.uc_compact.specs.Inputs.{Compaction}
use Rattle.uc_share.specs.Claims.{claimed_runs}
use Rattle.uc_share.specs.Installing.{EndsWith, event_of}
use Rattle.uc_share.proofs.store.Store.compact_held.Goals as goal

pub returns-in-Ok-replace_inputs-clause-installed : goal.returns-in-Ok-replace_inputs-clause-installed
returns-in-Ok-replace_inputs-clause-installed g c =
    subst (λ (made : Compaction). EndsWith c.args.reader.now (event_of g.O.Operator.meaning (claimed_runs c.args.held) made) c.replace_inputs.new.reader)
    c.in-Ok.ensures c.in-Ok-replace_inputs.ensures.installed
