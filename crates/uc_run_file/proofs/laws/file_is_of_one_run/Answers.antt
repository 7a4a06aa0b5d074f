use Rattle.uc_run_file.proofs.FilesRead.{one_run}
use Rattle.uc_run_file.proofs.laws.file_is_of_one_run.Goals as goal

pub returns : goal.returns
returns c = one_run
