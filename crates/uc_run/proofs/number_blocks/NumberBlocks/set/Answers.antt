use Rattle.std.proofs.Common.{rules}
use Rattle.uc_run.proofs.LeastInBlocks.{leasts_set}
use Rattle.uc_run.proofs.number_blocks.NumberBlocks.set.Goals as goal

pub invariant_of-self : goal.invariant_of-self
invariant_of-self c =
    leasts_set c.self.inside.numbers.items c.self.inside.leasts.items c.self.invariant c.args.place c.args.number c.least_number.result (search rules)
    (search rules)
