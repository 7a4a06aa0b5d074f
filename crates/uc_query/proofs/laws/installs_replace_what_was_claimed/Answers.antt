use Rattle.uc_query.proofs.Turning.{OwnersStay, install_replaces}
use Rattle.uc_query.proofs.laws.installs_replace_what_was_claimed.Goals as goal

pub returns : goal.returns
returns g c = λ s name claim is_owner are here id.
    let owners : OwnersStay g.O.Operator.meaning = record {
      claimed_stays = c.owners_stay_owners.ensures.claimed;
      back_stays = c.owners_stay_owners.ensures.given_back;
      installed_stays = c.owners_stay_owners.ensures.installed;
      is_held_then = c.claims_are_held.ensures;
      stand = c.claims_can_be_compacted.ensures.stand;
      may = c.claims_can_be_compacted.ensures.may;
      event_may = c.installs_are_events.ensures.may;
      event_after = c.installs_are_events.ensures.after;
      compaction_stays = c.claimable_stretches_can_be_compacted.ensures.stays;
      compaction_may = c.claimable_stretches_can_be_compacted.ensures.may;
      fed_may = c.no_refusal_is_leave_to_feed.ensures;
      fed_stays = c.owners_stay_owners.ensures.fed;
      kept_stays = c.owners_stay_owners.ensures.kept;
      let_go_stays = c.owners_stay_owners.ensures.let_go;
    } in
    install_replaces g.O.Operator.meaning owners s is_owner are name claim here id
