use Rattle.std.proofs.Common.{◌≡◌}
use Rattle.uc_share.specs.Picking.{AreFlags}
use Rattle.uc_share.proofs.store.Store.busy_slots.Given as goal

-- the seat stays as it was, and a whole one has found no slot taken
abbrev pub invariant-loop-slot : goal.invariant-loop-slot
invariant-loop-slot g l = (l.seat ≡ l.fn.seat) × AreFlags l.fn.seat.whole l.busy
