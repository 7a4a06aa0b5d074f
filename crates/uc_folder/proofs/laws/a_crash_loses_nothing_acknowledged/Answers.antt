use Rattle.std.proofs.Common.{sym, subst}
use Rattle.uc_folder.specs.Worlds.{World, IsPrefixOf, run, start}
use Rattle.uc_folder.proofs.Histories.{always_next, always_keeps, run_acked, run_more, crash_reads, crash_prefix, crash_acked, crash_readable}
use Rattle.uc_folder.proofs.laws.a_crash_loses_nothing_acknowledged.Goals as goal

pub returns-clause-readable : goal.returns-clause-readable
returns-clause-readable c = λ events logs bases. crash_readable events logs bases

pub returns-clause-prefix : goal.returns-clause-prefix
returns-clause-prefix c = λ events logs bases. crash_prefix events logs bases

pub returns-clause-acknowledged : goal.returns-clause-acknowledged
returns-clause-acknowledged c = λ events logs bases. crash_acked events logs bases

pub returns-clause-goes_on : goal.returns-clause-goes_on
returns-clause-goes_on c = λ events logs bases least top sealed keep. crash_reads events logs bases least top sealed keep

pub returns-clause-stays : goal.returns-clause-stays
returns-clause-stays c = λ events later all.
    subst (λ (w : World). IsPrefixOf (run events start).acked w.acked) (sym (run_more events later start)) (run_acked later (run events start) all (always_next events) (always_keeps events))
