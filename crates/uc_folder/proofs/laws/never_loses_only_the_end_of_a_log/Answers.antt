use Rattle.uc_folder.proofs.Histories.{crash_prefix, crash_older, crash_readable}
use Rattle.uc_folder.proofs.laws.never_loses_only_the_end_of_a_log.Goals as goal

pub returns-clause-older : goal.returns-clause-older
returns-clause-older c = λ events logs bases. crash_older events logs bases

pub returns-clause-prefix : goal.returns-clause-prefix
returns-clause-prefix c = λ events logs bases. crash_prefix events logs bases

pub returns-clause-readable : goal.returns-clause-readable
returns-clause-readable c = λ events logs bases. crash_readable events logs bases
