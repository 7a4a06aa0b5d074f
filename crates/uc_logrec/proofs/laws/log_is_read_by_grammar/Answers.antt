use Rattle.uc_logrec.proofs.OneMeaning.{is_meaning}
use Rattle.uc_logrec.proofs.laws.log_is_read_by_grammar.Goals as goal

pub returns : goal.returns
returns c = is_meaning
