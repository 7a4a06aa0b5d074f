use Rattle.uc_live.proofs.Last.{rises_behind, waits_behind}
use Rattle.uc_live.proofs.live_store.LiveStore.prepare_writes.Goals as goal

pub prepare_all-requires-clause-rising : goal.prepare_all-requires-clause-rising
prepare_all-requires-clause-rising g c =
    rises_behind g.O.Operator.meaning c.self.inside c.args.self.now c.make_room.new.self c.self.view_is c.in_ok-make_room.ensures.prepares c.args.writes c.requires.rising

pub invariant_of-self-2 : goal.invariant_of-self-2
invariant_of-self-2 g c =
    waits_behind g.O.Operator.meaning c.self.inside c.args.self.now c.make_room.new.self c.self.view_is c.in_ok-make_room.ensures.prepares c.self.invariant
    c.args.writes c.requires.rising c.prepare_all.new.active c.in_ok-prepare_all.ensures.ok c.in_ok-prepare_all.ensures.small
