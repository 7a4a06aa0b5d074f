use Rattle.uc_folder.specs.Listing.{base_in, log_in}
use Rattle.uc_folder.proofs.Names.{least_of_logs, least_of_bases, top_above, least_base}
use Rattle.uc_folder.proofs.laws.removals_reach_all_listed_files.Goals as goal

pub returns-clause-least_log : goal.returns-clause-least_log
returns-clause-least_log c = λ bases logs k e. least_of_logs (least_base (base_in bases) bases) k logs e

pub returns-clause-least_base : goal.returns-clause-least_base
returns-clause-least_base c = λ bases logs k e. least_of_bases (base_in bases) k bases logs e

pub returns-clause-top : goal.returns-clause-top
returns-clause-top c = λ bases logs k e. top_above (log_in (base_in bases) logs) k logs e
