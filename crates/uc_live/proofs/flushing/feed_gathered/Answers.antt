use Rattle.std.proofs.Common.{◌≡◌, None, List, OnOk, ap, ◌∙◌, subst}
use Rattle.uc_bytes.specs.declared.write.Write.{Write}
use Rattle.uc_memtable.specs.Gathering.{Gathering}
use Rattle.uc_version_state.specs.Feeds.{feed_refusal}
use Rattle.uc_version.specs.Feeding.{after_feed}
use Rattle.uc_live.proofs.flushing.feed_gathered.Goals as goal

pub returns-in-Some-clause-ok : goal.returns-in-Some-clause-ok
returns-in-Some-clause-ok g c =
    let owned = c.args.owned.now in
    subst (λ (ws : List Write). OnOk c.feed_memtable.result ((feed_refusal owned.version ws ≡ None) × (c.feed_memtable.new.self ≡ after_feed ws owned))) c.in-Some.ensures c.feed_memtable.ensures.ok

pub returns-in_ok-all-in-None-clause-ok : goal.returns-in_ok-all-in-None-clause-ok
returns-in_ok-all-in-None-clause-ok g c =
    let owned = c.args.owned.now in
    let all = c.memtable-in-None.ensures ∙ ap (λ (a : Gathering). a.shown) c.in_ok-all-in-None.ensures in
    subst (λ (ws : List Write). OnOk c.feed_memtable-in-None.result ((feed_refusal owned.version ws ≡ None) × (c.feed_memtable-in-None.new.self ≡ after_feed ws owned))) all c.feed_memtable-in-None.ensures.ok
