use Rattle.std.proofs.Common.{ℕ, ◌<◌, sym, subst}
use Rattle.uc_claims.specs.declared.table.TheConstants.{MOST_SLOTS}
use Rattle.uc_live.proofs.Added.{slot_at}
use Rattle.uc_live.proofs.adding.has_claimed_run.Goals as goal

pub busy-requires : goal.busy-requires
busy-requires g c =
    subst (λ (n : ℕ). n < MOST_SLOTS) (sym c.slot.ensures) (slot_at c.args.runs.now c.loop-placed.placed-index c.placed-item.result c.loop-placed-test.true c.placed-item.is c.requires)
