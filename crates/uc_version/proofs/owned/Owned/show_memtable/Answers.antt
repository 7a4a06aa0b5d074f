use Rattle.std.proofs.Common.{◌≡◌, ◌<◌, List, None, [], ◌∷◌, length, map, ap, sym, ◌∙◌, subst}
use Rattle.uc_bytes.specs.declared.write.Write.{Write}
use Rattle.uc_run.specs.Size.{memtable_size}
use Rattle.uc_version_state.specs.Feeds.{memtables_in, fed, feed_refusal}
use Rattle.uc_version_state.proofs.Memtables.{rising_from_any}
use Rattle.uc_version.specs.Owners.{Owner}
use Rattle.uc_version.specs.Feeding.{moved_down, after_feed}
use Rattle.uc_version.proofs.Feeding.{fed_is_owned}
use Rattle.uc_version.proofs.owned.Owned.show_memtable.Goals as goal

pub invariant_of-self : goal.invariant_of-self
invariant_of-self g c =
    let v = c.self.inside.version in
    let ws = c.args.memtable.now in
    let next : c.args.next ≡ fed ws v = c.requires.next ∙ ap (λ (o : Owner). fed ws o.version) (sym c.self.view_is) in
    let small : memtable_size ws < v.limit = subst (λ (o : Owner). memtable_size ws < o.version.limit) (sym c.self.view_is) c.requires.small in
    let one : memtables_in v ws ≡ ws ∷ [] = c.small_writes_fill_one_memtable.ensures v.limit ws c.requires.some small in
    let count = ap (λ (ms : List (List Write)). length ms) (sym one) in
    let none : feed_refusal v ws ≡ None = subst (λ (o : Owner). feed_refusal o.version ws ≡ None) (sym c.self.view_is) c.requires.none in
    let is_version = c.feeds_and_keeps_give_versions.ensures.fed v ws c.self.invariant.owner_is.version ((c.no_refusal_is_leave_to_feed.ensures v ws (rising_from_any c.args.self.now.version.last ws c.requires.rising)).0 none) in
    fed_is_owned c.self.inside c.self.invariant ws c.args.next c.move_down.new.claims is_version next
    (c.move_down.ensures ∙ ap (λ n. map (moved_down n) c.self.inside.claims) count)

pub returns : goal.returns
returns g c =
    let v = c.self.inside.version in
    let ws = c.args.memtable.now in
    let next : c.args.next ≡ fed ws v = c.requires.next ∙ ap (λ (o : Owner). fed ws o.version) (sym c.self.view_is) in
    let small : memtable_size ws < v.limit = subst (λ (o : Owner). memtable_size ws < o.version.limit) (sym c.self.view_is) c.requires.small in
    let one : memtables_in v ws ≡ ws ∷ [] = c.small_writes_fill_one_memtable.ensures v.limit ws c.requires.some small in
    let count = ap (λ (ms : List (List Write)). length ms) (sym one) in
    let claims = c.move_down.ensures ∙ ap (λ n. map (moved_down n) c.self.inside.claims) count in
    let after : record { version = c.args.next; options = c.self.inside.options; claims = c.move_down.new.claims } ≡ after_feed ws (record { version = v; options = c.self.inside.options; claims = c.self.inside.claims }) = (λ i. record { version = next i; options = c.self.inside.options; claims = claims i }) in
    after ∙ ap (after_feed ws) c.self.view_is
