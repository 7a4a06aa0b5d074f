use Rattle.uc_tool.proofs.Judged.{good_names, fits_log, feeds_fit}
use Rattle.uc_tool.proofs.script_run.judged.Goals as goal

pub returns-clause-fits : goal.returns-clause-fits
returns-clause-fits c = fits_log c.a_script_names_no_more_than_it_has.ensures.all c.args.input.now c.requires c.judge_script.result c.judge_script.ensures.read

pub returns-clause-feeds : goal.returns-clause-feeds
returns-clause-feeds c = feeds_fit c.a_script_names_no_more_than_it_has.ensures.all c.args.input.now c.requires c.judge_script.result c.judge_script.ensures.read

pub returns-clause-names : goal.returns-clause-names
returns-clause-names c = good_names c.names_are_in_range.ensures c.args.input.now c.judge_script.result c.judge_script.ensures.read
