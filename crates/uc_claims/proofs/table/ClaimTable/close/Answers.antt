use Rattle.std.proofs.Common.{ap, ◌∙◌}
use Rattle.uc_claims.specs.Claims.{ShowsTaken}
use Rattle.uc_claims.proofs.Moves.{ends, none_left}
use Rattle.uc_claims.proofs.table.ClaimTable.close.Goals as goal

pub returns-clause-flags : goal.returns-clause-flags
returns-clause-flags c =
    let count = c.self.invariant.keyed ∙ ap (λ t. t.count) c.self.view_is in
    rw (← count) (ends _ _ _ _ _ _ _ c.close_with-closed.ensures.values.2 (ap (λ s. s.whole) c.seat.view_is) c.seat.invariant.1 c.taken_flags-flags.ensures)

pub returns-clause-whole : goal.returns-clause-whole
returns-clause-whole c =
    let end : ShowsTaken c.self.inside.table.shared.key c.args.seat.whole c.taken_flags-flags.result =
    ends _ _ _ _ _ _ _ c.close_with-closed.ensures.values.2 (ap (λ s. s.whole) c.seat.view_is) c.seat.invariant.1 c.taken_flags-flags.ensures in
    none_left _ _ _ end
