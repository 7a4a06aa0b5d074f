use Rattle.uc_query_read.proofs.NamedKeys.{keys_rise}
use Rattle.uc_query_read.proofs.answer_laws.scan_keys_rise.Goals as goal

pub returns : goal.returns
returns c = keys_rise
