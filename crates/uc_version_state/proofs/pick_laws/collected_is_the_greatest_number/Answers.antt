use Rattle.uc_version_state.proofs.Collected.{may_be, at_most}
use Rattle.uc_version_state.proofs.pick_laws.collected_is_the_greatest_number.Goals as goal

pub returns : goal.returns
returns c = record { may_be = λ o runs. may_be o runs; greatest = λ o runs n m. at_most o runs n m }
