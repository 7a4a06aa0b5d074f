use Rattle.std.proofs.Common.{ap, sym, ◌∙◌, arith, subst}
use Rattle.uc_query_workers.specs.Draws.{AreBelow}
use Rattle.uc_query_workers.proofs.Moves.{looks, below_past}
use Rattle.uc_query_workers.proofs.counter.PieceCounter.recall_all_drawn.Goals as goal

pub load-requires : goal.load-requires
load-requires c = (
  ap (λ s. s.table) c.seat.view_is ∙ c.requires.table ∙ sym (ap (λ t. t.table) c.self.view_is),
  omega (arith, c.self.invariant.words),
  looks _ _ _ _,
)

pub returns-clause-once : goal.returns-clause-once
returns-clause-once c =
    let seat = c.seat.view_is in
    let pieces = ap (λ t. t.pieces) c.self.view_is in
    let told = c.load.ensures.2.2 (omega (arith, ap (λ s. s.parts) seat, c.requires.all.0)) (ap (λ s. s.parts) seat ∙ c.requires.all.1 ∙ sym (ap (λ s. s.all) seat)) in
    below_past c.args.self.now.pieces c.load.result c.args.seat.now.numbers (subst (AreBelow c.load.result) (ap (λ s. s.numbers) seat) told) c.requires.end
