use Rattle.std.proofs.Common.{rules, ◌≡◌, length, min, arith}
use Rattle.uc_run.proofs.Fronts.{none_behind}
use Rattle.uc_run.proofs.prefixes.common_prefix_len.Goals as goal

pub returns : goal.returns
returns c =
    let place : c.loop-place.place ≡ min (length c.args.first.now) (length c.args.last.now) = search rules in
    let none = none_behind c.loop-place.place c.args.first.now c.args.last.now place in
    omega (arith, c.loop-place.invariant, none, place)
