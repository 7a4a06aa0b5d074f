use Rattle.std.proofs.Common.{ap, sym, ◌∙◌, arith}
use Rattle.uc_claims.proofs.Moves.{looks}
use Rattle.uc_claims.proofs.table.ClaimTable.busy.Goals as goal

pub load-requires : goal.load-requires
load-requires c =
    let t = ap (λ t. t.count) c.self.view_is in
    let k = c.self.invariant.keyed in
    (ap (λ s. s.table) c.seat.view_is ∙ c.requires.table ∙ sym (ap (λ t. t.table) c.self.view_is), omega (arith, c.requires.below), looks _ _ _ c.args.slot _ (omega (arith, c.requires.below)))
