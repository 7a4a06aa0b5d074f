use Rattle.uc_live.proofs.Standing.{stands_taken}
use Rattle.uc_live.proofs.standing_laws.stores_stand_for_their_writes.Goals as goal

pub returns : goal.returns
returns g c l ws taken =
    stands_taken g.O.Operator.meaning l ws c.histories_keep_what_is_read.ensures.version c.histories_keep_what_is_read.ensures.values c.histories_say_writes_and_keeps.ensures.last taken
