use Rattle.std.proofs.Common.{sym, ap, subst}
use Rattle.uc_live.specs.Lives.{Live}
use Rattle.uc_live.specs.Going.{GoesOn}
use Rattle.uc_live.proofs.Going.{commits}
use Rattle.uc_live.proofs.Room.{took_room}
use Rattle.uc_live.proofs.live_store.LiveStore.write_batch.Goals as goal

pub returns-clause-ok : goal.returns-clause-ok
returns-clause-ok g c =
    let m = g.O.Operator.meaning in
    let waits = c.in_ok-prepare_batch.ensures.ok in
    record {
      writes = waits.writes;
      is = waits.is;
      goes_on = subst (λ (l : Live). GoesOn m c.args.self.now l waits.writes) (sym c.commit.ensures) (commits m c.args.self.now c.prepare_batch.new.self waits.writes waits.prepares);
      none_prepared = ap (λ (l : Live). l.prepared) c.commit.ensures;
      room = took_room c.prepare_batch.new.self c.commit.new.self waits.writes waits.room waits.prepares.1 c.commit.ensures;
    }
