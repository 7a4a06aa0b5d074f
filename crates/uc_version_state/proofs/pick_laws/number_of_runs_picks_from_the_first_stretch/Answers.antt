use Rattle.std.proofs.Common.{arith}
use Rattle.uc_version_state.proofs.Picked.{Widths, widths, number_pick, no_number_pick, in_front}
use Rattle.uc_version_state.proofs.pick_laws.number_of_runs_picks_from_the_first_stretch.Goals as goal

pub returns : goal.returns
returns c = record {
  many = λ o runs s e. (number_pick o runs s e).many;
  count = λ o runs s e. (number_pick o runs s e).count;
  two = λ o runs s e. (number_pick o runs s e).two;
  front = λ o runs s good e k d at.
      let w : Widths o = widths o good in
      in_front o runs s (omega (arith, w.two, w.least)) e k d at;
  first = λ o runs s good e k l.
      let w : Widths o = widths o good in
      (number_pick o runs s e).before (omega (arith, w.two, w.least)) k l;
  none = λ o runs good many e k l.
      let w : Widths o = widths o good in
      no_number_pick o runs (omega (arith, w.two, w.least)) many e k l;
}
