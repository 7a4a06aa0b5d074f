use Rattle.std.proofs.Common.{ap, sym, ◌∙◌}
use Rattle.uc_claims.proofs.Moves.{joins}
use Rattle.uc_claims.proofs.table.ClaimTable.join.Goals as goal

pub join_seat-requires : goal.join_seat-requires
join_seat-requires c =
    let t = sym (ap (λ t. t.table) c.self.view_is) in (
      ap (λ s. s.table) c.seat.view_is ∙ c.requires.seat ∙ t,
      ap (λ s. s.table) c.other.view_is ∙ c.requires.other ∙ t,
      c.other.invariant.0,
      c.self.invariant.some,
      joins _ _ _ _ _,
    )
