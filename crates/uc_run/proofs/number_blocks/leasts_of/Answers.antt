use Rattle.std.proofs.Common.{rules, ℕ, List, length, subst, sym}
use Rattle.uc_run.specs.NumberBlocks.{IsLeastNumber, numbers_in}
use Rattle.uc_run.proofs.LeastInBlocks.{leasts_more}
use Rattle.uc_run.proofs.number_blocks.leasts_of.Goals as goal

pub loop-block-preserved : goal.loop-block-preserved
loop-block-preserved c =
    let numbers = c.args.numbers.now in
    let least = c.least_number.result in
    let own : IsLeastNumber (numbers_in numbers (length c.loop-block.leasts.items)) least =
    subst (λ (block : ℕ). IsLeastNumber (numbers_in numbers block) least) (sym c.loop-block.invariant.0)
    (subst (λ (ns : List ℕ). IsLeastNumber ns least) c.block_at.ensures c.least_number.ensures) in
    (search rules, rw c.in_ok-push.ensures.items (leasts_more numbers c.loop-block.leasts.items least c.loop-block.invariant.1 own))
