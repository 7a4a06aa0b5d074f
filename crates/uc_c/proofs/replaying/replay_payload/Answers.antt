use Rattle.std.proofs.Common.{◌+◌, List, refl, sym, ap, ◌∙◌, subst}
use Rattle.uc_bytes.specs.declared.write.Write.{Write}
use Rattle.uc_batch.specs.Batch.{writes_in}
use Rattle.uc_batch.specs.Rising.{IsRising}
use Rattle.uc_batch.proofs.Rises.{rising-batch}
use Rattle.uc_live.specs.Going.{GoesOn}
use Rattle.uc_live.specs.LiveFlushes.{HadRoom}
use Rattle.uc_engine.specs.Engines.{meaning_of}
use Rattle.uc_c.proofs.Again.{comes_next, count_is}
use Rattle.uc_c.proofs.replaying.replay_payload.Goals as goal

pub returns-then-not-may_follow-clause-ok : goal.returns-then-not-may_follow-clause-ok
returns-then-not-may_follow-clause-ok c = λ log lies. record {
  writes = writes_in c.in-Ok.header.sequence c.args.payload.now;
  behind = record { offset = c.args.behind; last = c.last_used-last.result; batches = c.args.place.batches + 1 };
  next = comes_next c.args.payload.now c.in-Ok.header c.in-Ok.ensures.counted log c.args.place c.args.behind c.last_used-last.result lies c.in-Ok.ensures.value c.last_used-last.ensures;
  gap = λ e. (c.may_follow.ensures.no c.if-not-may_follow.true).1 (e ∙ ap (λ n. c.args.place.last + n) (count_is c.args.payload.now c.in-Ok.header c.in-Ok.ensures.counted));
  may_not = (c.may_follow.ensures.no c.if-not-may_follow.true).0;
  same = refl;
}

pub write_all-requires : goal.write_all-requires
write_all-requires c =
    let rising = rising-batch c.args.place.last c.args.payload.now (writes_in c.in-Ok.header.sequence c.args.payload.now) c.in-Ok.ensures.value in
    record {
      rising = subst (λ n. IsRising n c.judged.result) c.requires.last (subst (λ (ws : List Write). IsRising c.args.place.last ws) (sym c.judged.ensures) rising);
    }

pub returns-clause-ok : goal.returns-clause-ok
returns-clause-ok c = λ log lies. record {
  writes = writes_in c.in-Ok.header.sequence c.args.payload.now;
  next = comes_next c.args.payload.now c.in-Ok.header c.in-Ok.ensures.counted log c.args.place c.args.behind c.last_used-last.result lies c.in-Ok.ensures.value c.last_used-last.ensures;
  follows = λ not. c.may_follow.ensures.yes c.if-not-may_follow.false not ∙ ap (λ n. c.args.place.last + n) (sym (count_is c.args.payload.now c.in-Ok.header c.in-Ok.ensures.counted));
  took = record {
    kind = c.in_ok-write_all.ensures.kind;
    goes_on = subst (λ (ws : List Write). GoesOn (meaning_of c.args.engine.now.kind) c.args.engine.now.live c.write_all.new.self.live ws) c.judged.ensures c.in_ok-write_all.ensures.ok;
    none_prepared = c.in_ok-write_all.ensures.none;
  };
  room = subst (HadRoom c.write_all.new.self.live) c.judged.ensures c.in_ok-write_all.ensures.room;
}
