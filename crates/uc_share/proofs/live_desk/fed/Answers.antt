use Rattle.std.proofs.Common.{length, sym, ap, ◌∙◌}
use Rattle.uc_version_state.specs.Versions.{Stored}
use Rattle.uc_version_state.specs.Feeds.{memtables_in}
use Rattle.uc_share.specs.Fronts.{Moment}
use Rattle.uc_share.proofs.Living.{cut_alike, counted_alike}
use Rattle.uc_share.proofs.live_desk.fed.Goals as goal

pub flushed_refusal-refusal-requires : goal.flushed_refusal-refusal-requires
flushed_refusal-refusal-requires g c =
    let now : Stored = c.args.publisher.version in
    let shown = c.version.ensures ∙ ap (λ (s : Moment). s.version) c.shown.ensures in
    c.len.ensures
    ∙ c.args.runs.ok.0
    ∙ counted_alike g.N.Name.base now c.catch_up.new.reader (sym c.catch_up.ensures.version) c.args.writes.now.list c.args.runs.items c.requires
    ∙ ap (λ (v : Stored). length (memtables_in v c.args.writes.now.list)) (sym shown)
    ∙ ap (λ ws. length (memtables_in c.version.result.now ws)) (sym c.list.ensures.list)

pub publish_feed-publisher-requires-clause-runs : goal.publish_feed-publisher-requires-clause-runs
publish_feed-publisher-requires-clause-runs g c =
    cut_alike g.N.Name.base c.args.publisher.version c.catch_up.new.reader (sym c.catch_up.ensures.version) c.args.writes.now.list c.args.runs.items c.requires
