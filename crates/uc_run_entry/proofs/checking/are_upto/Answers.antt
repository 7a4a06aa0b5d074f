use Rattle.std.proofs.Common.{refl}
use Rattle.uc_run_entry.proofs.SeqsFall.{upto_by, upto_none}
use Rattle.uc_run_entry.proofs.checking.are_upto.Goals as goal

pub returns-in-None : goal.returns-in-None
returns-in-None c = ((λ t. upto_none c.args.high c.args.seqs.now c.in-None.ensures), (λ all. refl))

pub returns-in-Some : goal.returns-in-Some
returns-in-Some c = upto_by c.args.high c.args.seqs.now c.in-Some.newest c.requires c.in-Some.ensures
