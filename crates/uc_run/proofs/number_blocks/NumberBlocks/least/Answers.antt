use Rattle.std.proofs.Common.{subst}
use Rattle.uc_run.specs.NumberBlocks.{IsLeastNumber}
use Rattle.uc_run.proofs.LeastInBlocks.{least_of_leasts}
use Rattle.uc_run.proofs.number_blocks.NumberBlocks.least.Goals as goal

pub returns : goal.returns
returns c =
    subst (λ numbers. IsLeastNumber numbers c.least_number.result) c.self.view_is
    (least_of_leasts c.self.inside.numbers.items c.self.inside.leasts.items c.self.invariant c.least_number.result
    (subst (λ leasts. IsLeastNumber leasts c.least_number.result) c.deref.ensures.value c.least_number.ensures))
