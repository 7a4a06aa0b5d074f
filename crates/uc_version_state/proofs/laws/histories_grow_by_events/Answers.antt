use Rattle.uc_version_state.specs.Openings.{opened}
use Rattle.uc_version_state.proofs.Growing.{follow-append, after-append}
use Rattle.uc_version_state.proofs.laws.histories_grow_by_events.Goals as goal

pub returns : goal.returns
returns g c = record {
  legal = λ h e is_legal may. record { opens = is_legal.opens; follow = follow-append g.O.Operator.meaning (opened h.opening) h.events e is_legal.follow may };
  after = λ h e. after-append (opened h.opening) h.events e;
}
