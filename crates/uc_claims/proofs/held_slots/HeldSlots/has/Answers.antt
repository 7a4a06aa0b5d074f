use Rattle.std.proofs.Common.{ap, subst}
use Rattle.std.specs.Prelude.{Contains, IsTrue, ◌↔◌}
use Rattle.uc_claims.proofs.Records.{in_set}
use Rattle.uc_claims.proofs.held_slots.HeldSlots.has.Goals as goal

pub returns : goal.returns
returns c =
    let held = in_set c.self.invariant.1 c.args.slot in
    subst (λ slots. IsTrue c.has.result ↔ Contains slots c.args.slot) (ap (λ h. h.slots) c.self.view_is)
    ((λ is. held.0 (c.has.ensures.0 is)), (λ has. c.has.ensures.1 (held.1 has)))
