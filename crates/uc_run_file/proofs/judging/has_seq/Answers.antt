use Rattle.std.proofs.Common.{eqb, refl}
use Rattle.uc_run_entry.proofs.SeqsFall.{among_by, not_among}
use Rattle.uc_run_file.proofs.judging.has_seq.Goals as goal

pub returns-in-None : goal.returns-in-None
returns-in-None c = not_among c.args.seq c.args.seqs.now c.requires c.in-None.ensures

pub returns-in-Some : goal.returns-in-Some
returns-in-Some c = among_by c.args.seq c.in-Some.newest c.args.seqs.now (eqb c.in-Some.newest c.args.seq) c.requires c.in-Some.ensures refl
