use Rattle.std.proofs.Common.{sym, subst}
use Rattle.uc_claims.specs.Claims.{Recorded}
use Rattle.uc_claims.proofs.Records.{Recorded-none}
use Rattle.uc_claims.proofs.held_slots.HeldSlots.none.Goals as goal

pub invariant_of-result : goal.invariant_of-result
invariant_of-result c = (c.seat.invariant.0, subst (Recorded c.seat.inside.token.table_id.words _) (sym c.seat.invariant.1) (Recorded-none _ _ c.none.ensures))
