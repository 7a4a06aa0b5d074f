use Rattle.std.proofs.Common.{rules}
use Rattle.uc_run_entry.proofs.Equal.{equal_by}
use Rattle.uc_run_entry.proofs.alike.are_equal.Goals as goal

pub returns : goal.returns
returns c = equal_by _ (λ x y. ((λ e. search rules), (λ e. search rules))) c.args.seqs.now c.args.others.now c.eq.result c.eq.ensures
