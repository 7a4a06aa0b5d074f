use Rattle.std.proofs.Common.{refl, arith}
use Rattle.uc_history.proofs.laws.a_read_sees_a_group.Goals as goal

pub returns : goal.returns
returns g c = λ writes query. (tt, (tt, (omega (arith), (tt, (tt, (refl, tt))))))
