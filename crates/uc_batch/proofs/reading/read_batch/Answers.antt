use Rattle.std.proofs.Common.{subst, arith}
use Rattle.uc_batch.specs.Reads.{Gives}
use Rattle.uc_batch.proofs.Accepted.{batch_accepted}
use Rattle.uc_batch.proofs.Found.{is_sound}
use Rattle.uc_batch.proofs.reading.read_batch.Goals as goal

pub returns-clause-sound : goal.returns-clause-sound
returns-clause-sound c = is_sound c.args.last c.args.bytes.now c.copy_batch.result (λ i. omega (arith, c.type_inv.bytes i)) c.copy_batch.ensures

pub returns-clause-complete : goal.returns-clause-complete
returns-clause-complete c = λ writes a. subst (λ r. Gives (λ v. v.items) c.copy_batch.result r) (batch_accepted c.args.last c.args.bytes.now writes a) c.copy_batch.ensures
