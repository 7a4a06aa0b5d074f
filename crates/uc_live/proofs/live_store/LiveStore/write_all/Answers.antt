use Rattle.std.proofs.Common.{sym, subst}
use Rattle.uc_live.specs.Lives.{Live}
use Rattle.uc_live.specs.Going.{GoesOn}
use Rattle.uc_live.specs.Writing.{Prepares}
use Rattle.uc_live.proofs.Going.{commits}
use Rattle.uc_live.proofs.Room.{took_room}
use Rattle.uc_live.proofs.live_store.LiveStore.write_all.Goals as goal

pub returns-clause-ok : goal.returns-clause-ok
returns-clause-ok g c =
    let m = g.O.Operator.meaning in
    let now = c.args.self.now in
    let mid = c.prepare_writes.new.self in
    let prepares = subst (λ (l : Live). Prepares m l mid c.args.writes) c.give_up.ensures c.in_ok-prepare_writes.ensures.ok in
    subst (λ (l : Live). GoesOn m now l c.args.writes) (sym c.commit.ensures) (commits m now mid c.args.writes prepares)

pub returns-clause-room : goal.returns-clause-room
returns-clause-room g c =
    took_room c.prepare_writes.new.self c.commit.new.self c.args.writes c.in_ok-prepare_writes.ensures.room c.in_ok-prepare_writes.ensures.ok.1 c.commit.ensures
