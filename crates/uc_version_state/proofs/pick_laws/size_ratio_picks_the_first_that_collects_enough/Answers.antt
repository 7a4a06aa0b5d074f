use Rattle.std.proofs.Common.{drop, arith}
use Rattle.uc_version_state.specs.Picks.{collected}
use Rattle.uc_version_state.specs.Collecting.{MayBeCollected}
use Rattle.uc_version_state.proofs.Collected.{may_be}
use Rattle.uc_version_state.proofs.Picked.{Widths, widths, IsRatioPick, ratio_pick, no_ratio_pick}
use Rattle.uc_version_state.proofs.pick_laws.size_ratio_picks_the_first_that_collects_enough.Goals as goal

pub returns : goal.returns
returns c = record {
  there = λ o runs s e. (ratio_pick o runs s e).there;
  count = λ o runs s e. (ratio_pick o runs s e).count;
  least = λ o runs s e. (ratio_pick o runs s e).least;
  greatest = λ o runs s good e.
      let m : MayBeCollected o (drop s.first runs) (collected o (drop s.first runs)) = may_be o (drop s.first runs) in
      let w : Widths o = widths o good in
      let p : IsRatioPick o runs s = ratio_pick o runs s e in
      omega (arith, m.room, w.two, w.least, p.count);
  first = λ o runs s good e k l.
      let w : Widths o = widths o good in
      (ratio_pick o runs s e).before (omega (arith, w.two)) k l;
  none = λ o runs good e k l.
      let w : Widths o = widths o good in
      no_ratio_pick o runs (omega (arith, w.two)) e k l;
}
