use Rattle.uc_folder.proofs.Histories.{crash_finds, restart_finds, reread_finds}
use Rattle.uc_folder.proofs.laws.an_opening_finds_its_files.Goals as goal

pub returns-clause-crashed : goal.returns-clause-crashed
returns-clause-crashed c = λ events logs bases bs ls is r is_found. crash_finds events logs bases bs ls is r is_found

pub returns-clause-ended : goal.returns-clause-ended
returns-clause-ended c = λ events bs ls is r is_found. restart_finds events bs ls is r is_found

pub returns-clause-reread : goal.returns-clause-reread
returns-clause-reread c = λ events keep bs ls is r is_found. reread_finds events keep bs ls is r is_found
