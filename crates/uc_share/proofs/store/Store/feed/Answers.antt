use Rattle.uc_share.proofs.Prefixes.{prefix_behind}
use Rattle.uc_share.proofs.store.Store.feed.Goals as goal

pub returns-clause-fed : goal.returns-clause-fed
returns-clause-fed g c =
    let ends = c.in_ok-feed.ensures.fed in
    (ends.0, prefix_behind c.args.reader.now c.runs_to_feed.new.reader ends.0 c.runs_to_feed.ensures.seen ends.1, ends.2)
