use Rattle.std.proofs.Common.{List, sym, subst}
use Rattle.uc_bytes.specs.declared.write.Write.{Write}
use Rattle.uc_live.specs.LiveFlushes.{FillFewer}
use Rattle.uc_live.proofs.Room.{none_fill}
use Rattle.uc_live.proofs.live_store.LiveStore.make_room.Goals as goal

pub returns-in_ok-flush-clause-room : goal.returns-in_ok-flush-clause-room
returns-in_ok-flush-clause-room g c =
    let new = c.flush.new.self in
    subst (λ (ws : List Write). FillFewer new ws) (sym c.in_ok-flush.ensures.all)
    (none_fill c.args.self.now.options new c.in_ok-flush.ensures.prepares.0.2 c.recall.ensures.good)
