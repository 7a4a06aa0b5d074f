use Rattle.std.proofs.Common.{ap, ◌∙◌}
use Rattle.uc_version_state.specs.Versions.{Stored}
use Rattle.uc_share.proofs.Living.{limit_along}
use Rattle.uc_share.proofs.live_store.recall_limit.Goals as goal

pub returns : goal.returns
returns g c = ap (λ (v : Stored). v.limit) c.recall.ensures.version_is ∙ limit_along g.N.Name.base c.args.pin.now.events
