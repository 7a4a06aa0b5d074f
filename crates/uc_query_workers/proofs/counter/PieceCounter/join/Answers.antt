use Rattle.std.proofs.Common.{ap, sym, ◌∙◌, arith}
use Rattle.uc_query_workers.proofs.Moves.{joins}
use Rattle.uc_query_workers.proofs.counter.PieceCounter.join.Goals as goal

pub join_seat-requires : goal.join_seat-requires
join_seat-requires c =
    let t = sym (ap (λ t. t.table) c.self.view_is) in
    let parts = ap (λ s. s.parts) c.seat.view_is in (
      ap (λ s. s.table) c.seat.view_is ∙ c.requires.seat ∙ t,
      ap (λ s. s.table) c.other.view_is ∙ c.requires.other ∙ t,
      c.other.invariant,
      omega (arith, c.self.invariant.words),
      joins _ _ _ _ _ (omega (arith, parts, c.requires.part)),
    )
