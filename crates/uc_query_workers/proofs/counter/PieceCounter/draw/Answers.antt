use Rattle.std.proofs.Common.{ℕ, ◌<◌, ap, sym, ◌∙◌, arith, subst}
use Rattle.uc_query_workers.specs.Draws.{Drawing, past}
use Rattle.uc_query_workers.proofs.Moves.{draws}
use Rattle.uc_query_workers.proofs.counter.PieceCounter.draw.Goals as goal

pub fetch_add-number-requires : goal.fetch_add-number-requires
fetch_add-number-requires c =
    let pieces = ap (λ t. t.pieces) c.self.view_is in
    let seat = c.seat.view_is in (
      ap (λ s. s.table) seat ∙ c.requires.table ∙ sym (ap (λ t. t.table) c.self.view_is),
      omega (arith, c.self.invariant.words),
      draws _ _ _ _ c.self.invariant.within (subst (λ (s : Drawing). past c.self.inside.table.shared.key.pieces s.numbers < s.parts) (sym seat) (subst (λ (n : ℕ). past n c.args.seat.now.numbers < c.args.seat.now.parts) (sym pieces) c.requires.may)),
    )
