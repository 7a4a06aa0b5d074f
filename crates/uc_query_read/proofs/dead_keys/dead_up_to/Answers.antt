use Rattle.std.proofs.Common.{◌+◌, true, option_map}
use Rattle.uc_query_read.specs.Walks.{StandsAt}
use Rattle.uc_query_read.proofs.Hiding.{all_taken, found_dead}
use Rattle.uc_query_read.proofs.dead_keys.dead_up_to.Goals as goal

pub returns : goal.returns
returns g c =
    let m = g.O.Operator.meaning in
    let cursors = c.args.cursors.now in
    let key = c.args.key.now in
    let place = c.in_ok-place.place in
    found_dead m c.plain_list_does_what_is_found.ensures c.effects_of_parts_compose.ensures c.effect_gives_value.ensures.none
    cursors key c.args.at place c.in_ok-place.end.now c.in_ok-place.ensures (option_map (λ k. k.now) c.least_key.result)
    (c.least_key.ensures key true (all_taken (StandsAt key true) (place + 1) cursors c.requires.stand))
    c.lesser.result c.lesser.ensures
