use Rattle.std.proofs.Common.{eqb, refl}
use Rattle.uc_run.proofs.SetBits.{kept}
use Rattle.uc_run.proofs.filter_bits.set_bits.Goals as goal

pub returns-clause-kept : goal.returns-clause-kept
returns-clause-kept c other more has = kept c.args.words.now c.args.place c.args.bits other more (eqb other c.args.place) refl c.requires has
