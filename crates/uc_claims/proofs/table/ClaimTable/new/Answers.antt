use Rattle.std.proofs.Common.{◌∙◌, take, replicate, arith, length-take-le}
use Rattle.std.proofs.lemmas.List.{get_or-take, get_or-replicate}
use Rattle.uc_claims.specs.declared.table.TheConstants.{MOST_SLOTS}
use Rattle.uc_claims.proofs.Moves.{begins}
use Rattle.uc_claims.proofs.table.ClaimTable.new.Goals as goal

pub of_words-requires : goal.of_words-requires
of_words-requires c =
    let n = c.args.count in
    begins n (take n (replicate MOST_SLOTS 0)) (length-take-le n (replicate MOST_SLOTS 0) (omega (arith, c.requires.few)))
    (λ k l. get_or-take n (replicate MOST_SLOTS 0) k 0 l ∙ get_or-replicate MOST_SLOTS k 0 0 (omega (arith, c.requires.few)))
