use Rattle.std.proofs.lemmas.Result.{on_ok_weaker}
use Rattle.uc_batch.proofs.Text.{more_pushed}
use Rattle.uc_batch.proofs.writing.+push_varint.Goals as goal

pub returns-clause-ok : goal.returns-clause-ok
returns-clause-ok t c =
    on_ok_weaker c.push_varint.result (more_pushed c.args.out.now.items c.push-2.new.self.items c.push_varint.new.out.items c.args.more c.args.number c.if-more-eq0.false c.if-number-lt128.false c.in_ok-push-2.ensures.items) c.push_varint.ensures.ok
