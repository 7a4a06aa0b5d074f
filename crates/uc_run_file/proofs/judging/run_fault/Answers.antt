use Rattle.std.proofs.Common.{◌∙◌, sym}
use Rattle.std.proofs.lemmas.Bool.{false≢true}
use Rattle.uc_run_file.proofs.PointsJudged.{without_points, makes_run, all_good_of}
use Rattle.uc_run_file.proofs.judging.run_fault.Goals as goal

pub returns-then-not-is_run-clause-judged : goal.returns-then-not-is_run-clause-judged
returns-then-not-is_run-clause-judged c = λ is. false≢true (sym c.if-not-is_run.true ∙ c.is_run.ensures.1 (without_points c.args.low c.args.high c.args.fragments.now c.args.points.now is))

pub returns-in-Some-clause-judged : goal.returns-in-Some-clause-judged
returns-in-Some-clause-judged c = λ is. c.in-Some.ensures.judged (all_good_of c.args.low c.args.high c.args.fragments.now c.args.points.now is)

pub returns-in-None-clause-judged : goal.returns-in-None-clause-judged
returns-in-None-clause-judged c = makes_run c.args.low c.args.high c.args.fragments.now c.args.points.now (c.is_run.ensures.0 c.if-not-is_run.false) c.in-None.ensures.judged
