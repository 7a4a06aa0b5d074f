use Rattle.uc_version_state.proofs.Picked.{pick}
use Rattle.uc_version_state.proofs.pick_laws.picks_are_unclaimed_runs.Goals as goal

pub returns : goal.returns
returns c = record {
  there = λ o runs s e. (pick o runs s e).there;
  unclaimed = λ o runs s e. (pick o runs s e).unclaimed;
  two = λ o runs s good e. (pick o runs s e).two good;
}
