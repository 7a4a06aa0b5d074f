use Rattle.std.proofs.Common.{◌≡◌, ◌-◌, List, None, length, map, ap, sym, ◌∙◌, subst, arith}
use Rattle.std.specs.List.{AllByRecursion}
use Rattle.uc_version_state.specs.Versions.{PlacedRun, Stored}
use Rattle.uc_version_state.specs.Feeds.{memtables_in, fed, feed_refusal}
use Rattle.uc_version.specs.Owners.{Owner}
use Rattle.uc_version.specs.Feeding.{moved_down, after_feed}
use Rattle.uc_version.proofs.Feeding.{Fits, runs_counted, all_fit, fed_is_owned}
use Rattle.uc_version.proofs.owned.Owned.show_fed.Goals as goal

pub overflow_sub-count : goal.overflow_sub-count
overflow_sub-count g c =
    let v = c.self.inside.version in
    let ws = c.args.writes.now in
    let next : c.args.next ≡ fed ws v = c.requires.next ∙ ap (λ (o : Owner). fed ws o.version) (sym c.self.view_is) in
    let more : length c.runs.result.now ≡ length (fed ws v).runs = ap (λ (rs : List PlacedRun). length rs) (c.runs.ensures ∙ ap (λ (u : Stored). u.runs) next) in
    let before : length c.runs-2.result.now ≡ length v.runs = ap (λ (rs : List PlacedRun). length rs) c.runs-2.ensures in
    let e = runs_counted v ws in
    omega (arith, more, before, e)

pub move_down-requires : goal.move_down-requires
move_down-requires g c =
    let v = c.self.inside.version in
    let ws = c.args.writes.now in
    let next : c.args.next ≡ fed ws v = c.requires.next ∙ ap (λ (o : Owner). fed ws o.version) (sym c.self.view_is) in
    let more : length c.runs.result.now ≡ length (fed ws v).runs = ap (λ (rs : List PlacedRun). length rs) (c.runs.ensures ∙ ap (λ (u : Stored). u.runs) next) in
    let before : length c.runs-2.result.now ≡ length v.runs = ap (λ (rs : List PlacedRun). length rs) c.runs-2.ensures in
    let e = runs_counted v ws in
    let count : length (memtables_in v ws) ≡ length c.runs.result.now - length c.runs-2.result.now = omega (arith, more, before, e) in
    let none : feed_refusal v ws ≡ None = subst (λ (o : Owner). feed_refusal o.version ws ≡ None) (sym c.self.view_is) c.requires.none in
    let is_version = c.feeds_and_keeps_give_versions.ensures.fed v ws c.self.invariant.owner_is.version ((c.no_refusal_is_leave_to_feed.ensures v ws c.requires.rising).0 none) in
    subst (λ n. AllByRecursion (Fits n) c.self.inside.claims) count (all_fit v ws is_version c.self.inside.claims c.self.invariant.owner_is.stand)

pub invariant_of-self : goal.invariant_of-self
invariant_of-self g c =
    let v = c.self.inside.version in
    let ws = c.args.writes.now in
    let next : c.args.next ≡ fed ws v = c.requires.next ∙ ap (λ (o : Owner). fed ws o.version) (sym c.self.view_is) in
    let more : length c.runs.result.now ≡ length (fed ws v).runs = ap (λ (rs : List PlacedRun). length rs) (c.runs.ensures ∙ ap (λ (u : Stored). u.runs) next) in
    let before : length c.runs-2.result.now ≡ length v.runs = ap (λ (rs : List PlacedRun). length rs) c.runs-2.ensures in
    let e = runs_counted v ws in
    let count : length c.runs.result.now - length c.runs-2.result.now ≡ length (memtables_in v ws) = omega (arith, more, before, e) in
    let none : feed_refusal v ws ≡ None = subst (λ (o : Owner). feed_refusal o.version ws ≡ None) (sym c.self.view_is) c.requires.none in
    let is_version = c.feeds_and_keeps_give_versions.ensures.fed v ws c.self.invariant.owner_is.version ((c.no_refusal_is_leave_to_feed.ensures v ws c.requires.rising).0 none) in
    fed_is_owned c.self.inside c.self.invariant ws c.args.next c.move_down.new.claims is_version next
    (c.move_down.ensures ∙ ap (λ n. map (moved_down n) c.self.inside.claims) count)

pub returns-clause-count : goal.returns-clause-count
returns-clause-count g c =
    let v = c.self.inside.version in
    let ws = c.args.writes.now in
    let next : c.args.next ≡ fed ws v = c.requires.next ∙ ap (λ (o : Owner). fed ws o.version) (sym c.self.view_is) in
    let more : length c.runs.result.now ≡ length (fed ws v).runs = ap (λ (rs : List PlacedRun). length rs) (c.runs.ensures ∙ ap (λ (u : Stored). u.runs) next) in
    let before : length c.runs-2.result.now ≡ length v.runs = ap (λ (rs : List PlacedRun). length rs) c.runs-2.ensures in
    let e = runs_counted v ws in
    let count : length c.runs.result.now - length c.runs-2.result.now ≡ length (memtables_in v ws) = omega (arith, more, before, e) in
    count ∙ ap (λ (o : Owner). length (memtables_in o.version ws)) c.self.view_is

pub returns-clause-after : goal.returns-clause-after
returns-clause-after g c =
    let v = c.self.inside.version in
    let ws = c.args.writes.now in
    let next : c.args.next ≡ fed ws v = c.requires.next ∙ ap (λ (o : Owner). fed ws o.version) (sym c.self.view_is) in
    let more : length c.runs.result.now ≡ length (fed ws v).runs = ap (λ (rs : List PlacedRun). length rs) (c.runs.ensures ∙ ap (λ (u : Stored). u.runs) next) in
    let before : length c.runs-2.result.now ≡ length v.runs = ap (λ (rs : List PlacedRun). length rs) c.runs-2.ensures in
    let e = runs_counted v ws in
    let count : length c.runs.result.now - length c.runs-2.result.now ≡ length (memtables_in v ws) = omega (arith, more, before, e) in
    let claims = c.move_down.ensures ∙ ap (λ n. map (moved_down n) c.self.inside.claims) count in
    let after : record { version = c.args.next; options = c.self.inside.options; claims = c.move_down.new.claims } ≡ after_feed ws (record { version = v; options = c.self.inside.options; claims = c.self.inside.claims }) = (λ i. record { version = next i; options = c.self.inside.options; claims = claims i }) in
    after ∙ ap (after_feed ws) c.self.view_is
