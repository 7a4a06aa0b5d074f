use Rattle.std.proofs.Common.{ap, sym, ◌∙◌}
use Rattle.uc_claims.proofs.Moves.{splits}
use Rattle.uc_claims.proofs.table.ClaimTable.split.Goals as goal

pub split_seat-token-requires : goal.split_seat-token-requires
split_seat-token-requires c =
    (ap (λ s. s.table) c.seat.view_is ∙ c.requires ∙ sym (ap (λ t. t.table) c.self.view_is), c.self.invariant.some, splits _ _ _)
