use Rattle.std.proofs.Common.{List, ℕ, length, ◌<◌, sym, ap, subst}
use Rattle.uc_claims.proofs.Times.{shorter}
use Rattle.uc_claims.proofs.table.ClaimTable.give.Goals as goal

pub loop-slot-smaller : goal.loop-slot-smaller
loop-slot-smaller c =
    subst (λ (slots : List ℕ). length slots < length c.loop-slot.held.slots) (sym (ap (λ h. h.slots) c.free.ensures))
    (shorter c.in-Some.slot c.loop-slot.held.slots c.in-Some.ensures.some)
