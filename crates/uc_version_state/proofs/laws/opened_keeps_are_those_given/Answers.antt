use Rattle.uc_version_state.proofs.Kept.{those_given, in_order}
use Rattle.uc_version_state.proofs.laws.opened_keeps_are_those_given.Goals as goal

pub returns : goal.returns
returns c = record {
  given = λ o seq. those_given o seq;
  in_order = λ o. in_order o;
}
