use Rattle.std.proofs.Common.{map, ap, ◌∙◌}
use Rattle.uc_run.specs.Flush.{flushed}
use Rattle.uc_version_state.specs.Versions.{Stored}
use Rattle.uc_version_state.specs.Flushes.{memtables}
use Rattle.uc_share.proofs.live_store.runs_to_feed.Goals as goal

pub returns-clause-runs : goal.returns-clause-runs
returns-clause-runs g c =
    let limit = c.limit.ensures ∙ ap (λ (v : Stored). v.limit) c.version-3.ensures ∙ c.recall_limit.ensures in
    c.in_ok-flush_writes.ensures
    ∙ ap (λ n. map flushed (memtables n c.list-2.result.now)) limit
    ∙ ap (λ ws. map flushed (memtables g.N.Name.base.limit ws)) c.list-2.ensures.list
