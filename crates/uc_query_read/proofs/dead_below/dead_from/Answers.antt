use Rattle.std.proofs.Common.{◌+◌, Some, option_map}
use Rattle.uc_query_read.specs.Back.{StandsBelow}
use Rattle.uc_query_read.proofs.Hiding.{all_taken}
use Rattle.uc_query_read.proofs.HidingBack.{found_dead}
use Rattle.uc_query_read.proofs.dead_below.dead_from.Goals as goal

pub returns : goal.returns
returns g c =
    let m = g.O.Operator.meaning in
    let cursors = c.args.cursors.now in
    let key = c.args.key.now in
    let place = c.in_ok-place.place in
    found_dead m c.plain_list_does_what_is_found.ensures c.effects_of_parts_compose.ensures c.effect_gives_value.ensures.none
    cursors key c.args.at place c.in_ok-place.begin.now c.in_ok-place.ensures (option_map (λ k. k.now) c.greatest_key.result)
    (c.greatest_key.ensures (Some key) (all_taken (StandsBelow (Some key)) (place + 1) cursors c.requires.stand))
    (c.later.result.0.now, c.later.result.1) c.later.ensures
