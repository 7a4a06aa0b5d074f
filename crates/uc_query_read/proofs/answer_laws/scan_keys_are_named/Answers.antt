use Rattle.uc_query_read.proofs.NamedKeys.{keys_named}
use Rattle.uc_query_read.proofs.answer_laws.scan_keys_are_named.Goals as goal

pub returns : goal.returns
returns c = keys_named
