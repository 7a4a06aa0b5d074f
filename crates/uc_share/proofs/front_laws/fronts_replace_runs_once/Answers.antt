use Rattle.std.proofs.Common.{◌++◌}
use Rattle.uc_share.proofs.front_laws.fronts_replace_runs_once.Goals as goal

pub returns : goal.returns
returns g c = λ h base events legal is may. c.runs_are_replaced_once.ensures.replaced (record h { events = h.events ++ events }) (c.fronts_go_behind_histories.ensures.legal h base events legal is may)
