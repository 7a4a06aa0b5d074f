use Rattle.std.proofs.Common.{List, length, map, ap, sym, ◌∙◌, subst}
use Rattle.uc_bytes.specs.declared.write.Write.{Write}
use Rattle.uc_version_state.proofs.Memtables.{rising_from_any}
use Rattle.uc_version.specs.Owners.{Owner}
use Rattle.uc_version.specs.Feeding.{moved_down, Shows}
use Rattle.uc_version.proofs.Feeding.{fed_is_owned}
use Rattle.uc_version.proofs.owned.Owned.show_run.Goals as goal

pub invariant_of-self : goal.invariant_of-self
invariant_of-self g c =
    let v = c.self.inside.version in
    let ws = c.requires.0 in
    let shows : Shows v c.args.next ws = subst (λ (o : Owner). Shows o.version c.args.next ws) (sym c.self.view_is) c.requires.1 in
    let may = (c.no_refusal_is_leave_to_feed.ensures v ws (rising_from_any v.last ws shows.rising)).0 shows.none in
    let is_version = c.feeds_and_keeps_give_versions.ensures.fed v ws c.self.invariant.owner_is.version may in
    let count = ap (λ (ms : List (List Write)). length ms) (sym shows.one) in
    fed_is_owned c.self.inside c.self.invariant ws c.args.next c.move_down.new.claims is_version shows.next_is
    (c.move_down.ensures ∙ ap (λ n. map (moved_down n) c.self.inside.claims) count)
