use Rattle.std.proofs.Common.{◌<◌, length, sym, ◌∙◌, arith}
use Rattle.uc_compact.proofs.FirstAbove.{behind_place}
use Rattle.uc_compact.proofs.front.near_above.Goals as goal

pub returns-then-not-ends_by : goal.returns-then-not-ends_by
returns-then-not-ends_by c =
    let here = c.loop-place.invariant in
    let place = c.loop-place.place in
    let within : place < length c.args.fragments.now = omega (arith, here.bound, c.if-place-fragments.false) in
    record {
      bound = here.bound;
      before = here.before;
      behind = behind_place c.args.key.now c.args.fragments.now c.requires place c.index-fragments-place.result within c.index-fragments-place.is (sym c.ends_by.ensures ∙ c.if-not-ends_by.true);
    }
