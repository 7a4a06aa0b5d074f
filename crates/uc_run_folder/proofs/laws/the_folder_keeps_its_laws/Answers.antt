use Rattle.std.proofs.Common.{sym, subst}
use Rattle.uc_folder.specs.Device.{crashed, recovered}
use Rattle.uc_folder.specs.Worlds.{World, IsPrefixOf, IsReadable, submitted}
use Rattle.uc_run_folder.specs.RunWorlds.{start, all_seen}
use Rattle.uc_run_folder.proofs.Histories.{all_sees}
use Rattle.uc_run_folder.proofs.laws.the_folder_keeps_its_laws.Goals as goal

pub returns-clause-sees : goal.returns-clause-sees
returns-clause-sees c = λ w events. all_sees events w

pub returns-clause-readable : goal.returns-clause-readable
returns-clause-readable c = λ events logs bases. subst (λ (w : World). IsReadable (crashed logs bases w.device)) (sym (all_sees events start)) (c.a_crash_loses_nothing_acknowledged.ensures.readable (all_seen events start) logs bases)

pub returns-clause-prefix : goal.returns-clause-prefix
returns-clause-prefix c = λ events logs bases. subst (λ (w : World). IsPrefixOf (recovered (crashed logs bases w.device)) (submitted w)) (sym (all_sees events start)) (c.a_crash_loses_nothing_acknowledged.ensures.prefix (all_seen events start) logs bases)

pub returns-clause-acknowledged : goal.returns-clause-acknowledged
returns-clause-acknowledged c = λ events logs bases. subst (λ (w : World). IsPrefixOf w.acked (recovered (crashed logs bases w.device))) (sym (all_sees events start)) (c.a_crash_loses_nothing_acknowledged.ensures.acknowledged (all_seen events start) logs bases)
