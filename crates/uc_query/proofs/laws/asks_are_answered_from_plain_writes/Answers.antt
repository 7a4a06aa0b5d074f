use Rattle.uc_query.proofs.Turning.{OwnersStay}
use Rattle.uc_query.proofs.Extending.{Grows, Says, answered}
use Rattle.uc_query.proofs.laws.asks_are_answered_from_plain_writes.Goals as goal

pub returns : goal.returns
returns g c = λ h s calls rising legal is_owner are version.
    let owners : OwnersStay g.O.Operator.meaning = record {
      claimed_stays = c.owners_stay_owners.ensures.claimed;
      back_stays = c.owners_stay_owners.ensures.given_back;
      installed_stays = c.owners_stay_owners.ensures.installed;
      is_held_then = c.claims_are_held.ensures;
      stand = c.claims_can_be_compacted.ensures.stand;
      may = c.claims_can_be_compacted.ensures.may;
      event_may = c.installs_are_events.ensures.may;
      event_after = c.installs_are_events.ensures.after;
      compaction_stays = c.claimable_stretches_can_be_compacted.ensures.stays;
      compaction_may = c.claimable_stretches_can_be_compacted.ensures.may;
      fed_may = c.no_refusal_is_leave_to_feed.ensures;
      fed_stays = c.owners_stay_owners.ensures.fed;
      kept_stays = c.owners_stay_owners.ensures.kept;
      let_go_stays = c.owners_stay_owners.ensures.let_go;
    } in
    let grows : Grows g.O.Operator.meaning = record { legal = c.histories_grow_by_events.ensures.legal; then_after = c.histories_grow_by_events.ensures.after } in
    let says : Says g.O.Operator.meaning = record {
      writes = c.histories_say_writes_and_keeps.ensures.writes;
      last = c.histories_say_writes_and_keeps.ensures.last;
      keeps = c.histories_say_writes_and_keeps.ensures.keeps;
      answers = c.histories_keep_answers.ensures;
    } in
    answered g.O.Operator.meaning owners grows says calls rising h s (legal, is_owner, are, version)
