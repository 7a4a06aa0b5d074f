use Rattle.std.proofs.Common.{ap, sym, ◌∙◌, arith}
use Rattle.uc_query_workers.proofs.Moves.{splits}
use Rattle.uc_query_workers.proofs.counter.PieceCounter.split.Goals as goal

pub split_seat-token-requires : goal.split_seat-token-requires
split_seat-token-requires c =
    let parts = ap (λ s. s.parts) c.seat.view_is in (
      ap (λ s. s.table) c.seat.view_is ∙ c.requires.table ∙ sym (ap (λ t. t.table) c.self.view_is),
      omega (arith, c.self.invariant.words),
      splits _ _ _ (omega (arith, parts, c.requires.parts)) (ap (λ s. s.numbers) c.seat.view_is ∙ c.requires.none_drawn),
    )
