use Rattle.std.proofs.Common.{sym, ap, arith}
use Rattle.std.proofs.lemmas.List.{drop_all}
use Rattle.uc_log_crash.specs.Marks as marks
use Rattle.uc_log_crash.proofs.mark.mark_of.Goals as goal

pub returns-in-None-clause-value : goal.returns-in-None-clause-value
unfolding marks.mark_in
returns-in-None-clause-value c = sym (ap marks.mark_in (drop_all 12 c.args.payload.now (omega (arith, c.in-None.ensures.lookup))))
